-- The parts of the table: where each lies, and how it is taken out and put back.
use Rattle.std.specs.Prelude.{Option}
use mathlib.Core.Path.{◌≡◌, refl, sym, ap, subst}
use Prim.Native.Nat.{ℕ, ◌+◌, ◌≤◌, ◌<◌}
use mathlib.Core.List.{List}
use lib.ListN.{length, get_or, set, get_or-eq_default}
use seplogic.Ra.Ura.{Ura}
use base.Logic.{ent, guard}
use base.Fml.{Share}
use types.Logic.{Logic, sem}
use denote.Memory.{part_at}
use denote.Array.{Array}
use borrow.Table.Elements.{at}
use borrow.Struct.Behind.{put_at_lem}
use borrow.Struct.Inner.{Cut-record}
use lib.Seq.{set-get_or, set_out}
use Rattle.rules.specs.declared.Message.{Message}
use Rattle.rules.specs.Tables.{with_epoch, with_hosts, with_chunks, with_records, with_places}
use Rattle.rules.specs.Zero.{zero_host, zero_chunk, zero_record, zero_place}
use Rattle.rules.specs.contracts.Table as TableR
use Rattle.rules.proofs.Table.TheLaws as TableL
use Rattle.rules.specs.declared.Table.{Table}
use Rattle.rules.specs.contracts.Creation as CreationR
use Rattle.rules.specs.declared.Epoch.{Epoch}
use Rattle.rules.specs.contracts.Epoch as EpochR
use Rattle.rules.specs.declared.Host.{Host}
use Rattle.rules.specs.contracts.Host as HostR
use Rattle.rules.specs.declared.Chunk.{Chunk}
use Rattle.rules.specs.contracts.Chunk as ChunkR
use Rattle.rules.specs.declared.Record.{Record}
use Rattle.rules.specs.contracts.Record as RecordR
use Rattle.rules.specs.contracts.Message as MessageR
use Rattle.std.specs.contracts.option.Option as OptionR
use Rattle.table_lent.proofs.Hole.{Hole, within, element, sized}

-- ---- creation
module _ {M : Type 1} {𝓤 : Ura M} (𝓛 : Logic 𝓤) (q : Share) where
  pub creation_hole : (h : Table) (b o : ℕ) → Hole 𝓛 q TableR.the_row CreationR.the_row h h h.creation h.creation b o (o + 0)
  creation_hole h b o =
      Cut-record 𝓛 q TableR.the_row CreationR.the_type 0 h h h.creation h.creation (b, o)
      (put_at_lem 𝓛 q TableR.the_type TableL.the_loose 0 0 refl refl (b, o) h h ((TableR.struct).as_values h) h.creation refl refl)

-- ---- epoch
module _ {M : Type 1} {𝓤 : Ura M} (𝓛 : Logic 𝓤) (q : Share) where
  pub epoch_hole : (h : Table) (x : Epoch) (b o : ℕ) → Hole 𝓛 q TableR.the_row EpochR.the_row h (with_epoch h x) h.epoch x b o (o + 160)
  epoch_hole h x b o =
      Cut-record 𝓛 q TableR.the_row EpochR.the_type 160 h (with_epoch h x) h.epoch x (b, o)
      (put_at_lem 𝓛 q TableR.the_type TableL.the_loose 1 160 refl refl (b, o) h (with_epoch h x) ((TableR.struct).as_values h) x refl refl)

-- ---- hosts
abbrev pub hosts-at : ℕ → ℕ → ℕ
hosts-at o k = at (o + 168) 264 k

pub host-same : (h : Table) (k : ℕ) → with_hosts h (set h.hosts k (get_or h.hosts k zero_host)) ≡ h
host-same h k = ap (with_hosts h) (set-get_or h.hosts k zero_host)

pub host-beyond : (h : Table) (k : ℕ) → length h.hosts ≡ 8 → 8 ≤ k → zero_host ≡ get_or h.hosts k zero_host
host-beyond h k l le = sym (get_or-eq_default h.hosts zero_host (subst (λ (j : ℕ). j ≤ k) (sym l) le))

pub host_unset : (h : Table) (k : ℕ) (x : Host) → length h.hosts ≡ 8 → 8 ≤ k → h ≡ with_hosts h (set h.hosts k x)
host_unset h k x l le = sym (ap (with_hosts h) (set_out h.hosts k x (subst (λ (j : ℕ). j ≤ k) (sym l) le)))

module _ {M : Type 1} {𝓤 : Ura M} (𝓛 : Logic 𝓤) (q : Share) where
  hosts_hole : (h : Table) (xs : List Host) (b o : ℕ) → Hole 𝓛 q TableR.the_row (Array HostR.the_row 8) h (with_hosts h xs) h.hosts xs b o (o + 168)
  hosts_hole h xs b o =
      put_at_lem 𝓛 q TableR.the_type TableL.the_loose 2 168 refl refl (b, o) h (with_hosts h xs) ((TableR.struct).as_values h) xs refl refl

  pub host_hole : (h : Table) (k : ℕ) (x : Host) (b o : ℕ) → k < 8 → Hole 𝓛 q TableR.the_row HostR.the_row h (with_hosts h (set h.hosts k x)) (get_or h.hosts k zero_host) x b o (hosts-at o k)
  host_hole h k x b o lt =
      within 𝓛 q TableR.the_row (Array HostR.the_row 8) HostR.the_row h (with_hosts h (set h.hosts k x)) h.hosts (set h.hosts k x) (get_or h.hosts k zero_host) x b o (o + 168) (hosts-at o k)
      (hosts_hole h (set h.hosts k x) b o) (element 𝓛 q HostR.the_row tt 8 h.hosts k zero_host x b (o + 168) lt)

  pub hosts-sized : (h : Table) (b o : ℕ) → ent 𝓤 (sem 𝓛 (part_at TableR.the_row q h b o)) (guard 𝓤 (length h.hosts ≡ 8) (sem 𝓛 (part_at TableR.the_row q h b o)))
  hosts-sized h b o = sized 𝓛 q TableR.the_row HostR.the_row tt 8 h h.hosts b o (o + 168) (hosts_hole h h.hosts b o)

-- ---- chunks
abbrev pub chunks-at : ℕ → ℕ → ℕ
chunks-at o k = at (o + 2280) 32 k

pub chunk-same : (h : Table) (k : ℕ) → with_chunks h (set h.chunks k (get_or h.chunks k zero_chunk)) ≡ h
chunk-same h k = ap (with_chunks h) (set-get_or h.chunks k zero_chunk)

pub chunk-beyond : (h : Table) (k : ℕ) → length h.chunks ≡ 8 → 8 ≤ k → zero_chunk ≡ get_or h.chunks k zero_chunk
chunk-beyond h k l le = sym (get_or-eq_default h.chunks zero_chunk (subst (λ (j : ℕ). j ≤ k) (sym l) le))

pub chunk_unset : (h : Table) (k : ℕ) (x : Chunk) → length h.chunks ≡ 8 → 8 ≤ k → h ≡ with_chunks h (set h.chunks k x)
chunk_unset h k x l le = sym (ap (with_chunks h) (set_out h.chunks k x (subst (λ (j : ℕ). j ≤ k) (sym l) le)))

module _ {M : Type 1} {𝓤 : Ura M} (𝓛 : Logic 𝓤) (q : Share) where
  chunks_hole : (h : Table) (xs : List Chunk) (b o : ℕ) → Hole 𝓛 q TableR.the_row (Array ChunkR.the_row 8) h (with_chunks h xs) h.chunks xs b o (o + 2280)
  chunks_hole h xs b o =
      put_at_lem 𝓛 q TableR.the_type TableL.the_loose 3 2280 refl refl (b, o) h (with_chunks h xs) ((TableR.struct).as_values h) xs refl refl

  pub chunk_hole : (h : Table) (k : ℕ) (x : Chunk) (b o : ℕ) → k < 8 → Hole 𝓛 q TableR.the_row ChunkR.the_row h (with_chunks h (set h.chunks k x)) (get_or h.chunks k zero_chunk) x b o (chunks-at o k)
  chunk_hole h k x b o lt =
      within 𝓛 q TableR.the_row (Array ChunkR.the_row 8) ChunkR.the_row h (with_chunks h (set h.chunks k x)) h.chunks (set h.chunks k x) (get_or h.chunks k zero_chunk) x b o (o + 2280) (chunks-at o k)
      (chunks_hole h (set h.chunks k x) b o) (element 𝓛 q ChunkR.the_row tt 8 h.chunks k zero_chunk x b (o + 2280) lt)

  pub chunks-sized : (h : Table) (b o : ℕ) → ent 𝓤 (sem 𝓛 (part_at TableR.the_row q h b o)) (guard 𝓤 (length h.chunks ≡ 8) (sem 𝓛 (part_at TableR.the_row q h b o)))
  chunks-sized h b o = sized 𝓛 q TableR.the_row ChunkR.the_row tt 8 h h.chunks b o (o + 2280) (chunks_hole h h.chunks b o)

-- ---- records
abbrev pub records-at : ℕ → ℕ → ℕ
records-at o k = at (o + 2536) 352 k

pub record_same : (h : Table) (k : ℕ) → with_records h (set h.records k (get_or h.records k zero_record)) ≡ h
record_same h k = ap (with_records h) (set-get_or h.records k zero_record)

pub record_beyond : (h : Table) (k : ℕ) → length h.records ≡ 128 → 128 ≤ k → zero_record ≡ get_or h.records k zero_record
record_beyond h k l le = sym (get_or-eq_default h.records zero_record (subst (λ (j : ℕ). j ≤ k) (sym l) le))

pub record_unset : (h : Table) (k : ℕ) (x : Record) → length h.records ≡ 128 → 128 ≤ k → h ≡ with_records h (set h.records k x)
record_unset h k x l le = sym (ap (with_records h) (set_out h.records k x (subst (λ (j : ℕ). j ≤ k) (sym l) le)))

module _ {M : Type 1} {𝓤 : Ura M} (𝓛 : Logic 𝓤) (q : Share) where
  records_hole : (h : Table) (xs : List Record) (b o : ℕ) → Hole 𝓛 q TableR.the_row (Array RecordR.the_row 128) h (with_records h xs) h.records xs b o (o + 2536)
  records_hole h xs b o =
      put_at_lem 𝓛 q TableR.the_type TableL.the_loose 4 2536 refl refl (b, o) h (with_records h xs) ((TableR.struct).as_values h) xs refl refl

  pub record_hole : (h : Table) (k : ℕ) (x : Record) (b o : ℕ) → k < 128 → Hole 𝓛 q TableR.the_row RecordR.the_row h (with_records h (set h.records k x)) (get_or h.records k zero_record) x b o (records-at o k)
  record_hole h k x b o lt =
      within 𝓛 q TableR.the_row (Array RecordR.the_row 128) RecordR.the_row h (with_records h (set h.records k x)) h.records (set h.records k x) (get_or h.records k zero_record) x b o (o + 2536) (records-at o k)
      (records_hole h (set h.records k x) b o) (element 𝓛 q RecordR.the_row tt 128 h.records k zero_record x b (o + 2536) lt)

  pub records-sized : (h : Table) (b o : ℕ) → ent 𝓤 (sem 𝓛 (part_at TableR.the_row q h b o)) (guard 𝓤 (length h.records ≡ 128) (sem 𝓛 (part_at TableR.the_row q h b o)))
  records-sized h b o = sized 𝓛 q TableR.the_row RecordR.the_row tt 128 h h.records b o (o + 2536) (records_hole h h.records b o)

-- ---- places: each is an `Option` of a message
abbrev pub places-at : ℕ → ℕ → ℕ
places-at o k = at (o + 47592) 64 k

pub place_same : (h : Table) (k : ℕ) → with_places h (set h.places k (get_or h.places k zero_place)) ≡ h
place_same h k = ap (with_places h) (set-get_or h.places k zero_place)

pub place-beyond : (h : Table) (k : ℕ) → length h.places ≡ 64 → 64 ≤ k → zero_place ≡ get_or h.places k zero_place
place-beyond h k l le = sym (get_or-eq_default h.places zero_place (subst (λ (j : ℕ). j ≤ k) (sym l) le))

pub place_unset : (h : Table) (k : ℕ) (x : Option Message) → length h.places ≡ 64 → 64 ≤ k → h ≡ with_places h (set h.places k x)
place_unset h k x l le = sym (ap (with_places h) (set_out h.places k x (subst (λ (j : ℕ). j ≤ k) (sym l) le)))

module _ {M : Type 1} {𝓤 : Ura M} (𝓛 : Logic 𝓤) (q : Share) where
  places_hole : (h : Table) (xs : List (Option Message)) (b o : ℕ) → Hole 𝓛 q TableR.the_row (Array (OptionR.the_row MessageR.the_row) 64) h (with_places h xs) h.places xs b o (o + 47592)
  places_hole h xs b o =
      put_at_lem 𝓛 q TableR.the_type TableL.the_loose 5 47592 refl refl (b, o) h (with_places h xs) ((TableR.struct).as_values h) xs refl refl

  pub place_hole : (h : Table) (k : ℕ) (x : Option Message) (b o : ℕ) → k < 64 → Hole 𝓛 q TableR.the_row (OptionR.the_row MessageR.the_row) h (with_places h (set h.places k x)) (get_or h.places k zero_place) x b o (places-at o k)
  place_hole h k x b o lt =
      within 𝓛 q TableR.the_row (Array (OptionR.the_row MessageR.the_row) 64) (OptionR.the_row MessageR.the_row) h (with_places h (set h.places k x)) h.places (set h.places k x) (get_or h.places k zero_place) x b o (o + 47592) (places-at o k)
      (places_hole h (set h.places k x) b o) (element 𝓛 q (OptionR.the_row MessageR.the_row) tt 64 h.places k zero_place x b (o + 47592) lt)

  pub places-sized : (h : Table) (b o : ℕ) → ent 𝓤 (sem 𝓛 (part_at TableR.the_row q h b o)) (guard 𝓤 (length h.places ≡ 64) (sem 𝓛 (part_at TableR.the_row q h b o)))
  places-sized h b o = sized 𝓛 q TableR.the_row (OptionR.the_row MessageR.the_row) tt 64 h h.places b o (o + 47592) (places_hole h h.places b o)
