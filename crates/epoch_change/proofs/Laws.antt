-- What the chains of the code give is what the rules say
use Prim.Native.Nat.{ℕ, ◌+◌, ◌-◌, ◌≤◌, ◌<◌, min}
use mathlib.Core.Path.{◌≡◌, refl, sym, ap, ◌∙◌}
use mathlib.Core.Bool.{Bool, true, false, not, ◌&&◌, ◌||◌}
use mathlib.Core.List.{List, ◌++◌}
use native.Mathlib.Decide.{dec_le}
use native.Mathlib.Omega.{arith}
use lib.ListN.{length, get_or, take, drop, replicate, length-take, length-drop, length-replicate, length-append, get_or-append, get_or-replicate}
use lib.Dec.{ltb}
use lib.Seq.{get_or-take, get_or-drop}
use borrow.Author.Tests.{lt-ltb, le-ltb, ltb-true}
use Rattle.std.specs.List.{list_any, list_all, zip}
use Rattle.std.proofs.lemmas.List.{get_or_default, get_or-append_right}
use Rattle.std.proofs.lemmas.Slice.Zip.{length-zip, get_or-zip}
use Rattle.std.proofs.lemmas.List.Folds.{list_any_at, Any-from_list_any}
use Rattle.table_sets.proofs.Chains.{every-each, every-all}
use Rattle.rules.specs.declared.Set.{Set}
use Rattle.rules.specs.declared.Creation.{Creation}
use Rattle.rules.specs.declared.Chunk.{Chunk}
use Rattle.rules.specs.declared.Epoch.{Epoch}
use Rattle.rules.specs.Events.{all_lost, anew, renewed}
use Rattle.rules.specs.Limits.{chunk_limit}
use Rattle.rules.specs.Words.{some, every, each, numbers}
use Rattle.rules.specs.Zero.{◌among◌, no_chunk}
use Rattle.rules.proofs.Lists.{both, some_number, every-those}
use Rattle.rules.proofs.Loops.{each_of, some_stop}

-- ---- why it is refused

-- two arrays side by side: `zip`
zipped : {A B : Type 0} (d : A) (e : B) (n : ℕ) (k : List A) (l : List B) → length k ≡ n → length l ≡ n → zip k l ≡ each (λ i. (get_or k i d, get_or l i e)) (numbers n)
zipped d e n k l hk hl =
    each_of (d, e) (λ i. (get_or k i d, get_or l i e)) n (zip k l) (omega (arith, length-zip k l)) (λ i h. get_or-zip k l i (d, e) (omega arith) (omega arith))

-- the first n of an array: `take`
pub some_taken : {A : Type 0} (q : A → Bool) (d : A) (n m : ℕ) (l : List A) → length l ≡ m → some (λ i. ltb i n && q (get_or l i d)) (numbers m) ≡ list_any q (take n l)
some_taken q d n m l h = go (some p (numbers m)) (list_any q (take n l)) refl refl
  where
    p : ℕ → Bool
    p i = ltb i n && q (get_or l i d)

    go : (a b : Bool) → some p (numbers m) ≡ a → list_any q (take n l) ≡ b → a ≡ b
    go true true e f = refl
    go false false e f = refl
    go true false e f =
        let r = some_number p m e in
        let t = both (ltb r.0 n) (q (get_or l r.0 d)) r.2 in
        let i : r.0 < n = ltb-true r.0 n t.0 in
        sym (list_any_at q (take n l) r.0 d (omega (arith, length-take n l, r.1)) (rw (get_or-take n l r.0 d i) t.1)) ∙ f
    go false true e f =
        let r = Any-from_list_any q (take n l) f in
        let i : r.0 < n = omega (arith, length-take n l, r.2) in
        let j : r.0 < length l = omega (arith, length-take n l, r.2) in
        let x : get_or l r.0 d ≡ r.1 = get_or_default l r.0 d r.1 j ∙ sym (get_or-take n l r.0 r.1 i) ∙ r.3 in
        sym e ∙ some_stop p m r.0 (omega arith) (rw (lt-ltb r.0 n i, x) r.4)

pub all_lost_is : (s : Set) (chunks : List Chunk) → length s.chunks ≡ chunk_limit → length chunks ≡ chunk_limit
    → all_lost s chunks ≡ list_all (λ p. not p.0 || p.1.lost) (zip s.chunks chunks)
unfolding all_lost
all_lost_is s chunks hs hc =
    every-those (λ c. (get_or chunks c no_chunk).lost) (λ c. c among s) (numbers chunk_limit)
    ∙ sym (every-each (λ (p : Bool × Chunk). not p.0 || p.1.lost) (λ i. (get_or s.chunks i false, get_or chunks i no_chunk)) (numbers chunk_limit))
    ∙ ap (every (λ (p : Bool × Chunk). not p.0 || p.1.lost)) (sym (zipped false no_chunk chunk_limit s.chunks chunks hs hc))
    ∙ every-all (λ (p : Bool × Chunk). not p.0 || p.1.lost) (zip s.chunks chunks)

-- ---- the chunks renewed

pub renewed_is : (k : Creation) (next : Epoch) (used : ℕ) (chunks : List Chunk) → length chunks ≡ chunk_limit → used ≡ min 8 k.chunks
    → replicate used (anew next) ++ drop used chunks ≡ each (renewed k next chunks) (numbers chunk_limit)
renewed_is k next used chunks h hu =
    each_of no_chunk (renewed k next chunks) chunk_limit (replicate used (anew next) ++ drop used chunks)
    (omega (arith, length-append (replicate used (anew next)) (drop used chunks), length-replicate used (anew next), length-drop used chunks))
    (λ i j. go i j (dec_le used i))
  where
    go : (i : ℕ) → i < chunk_limit → Dec (used ≤ i) → get_or (replicate used (anew next) ++ drop used chunks) i no_chunk ≡ renewed k next chunks i
    go i j (yes l) =
        get_or-append_right (replicate used (anew next)) (drop used chunks) used i no_chunk (length-replicate used (anew next)) l
        ∙ get_or-drop used chunks (i - used) no_chunk
        ∙ (let e : used + (i - used) ≡ i = omega arith in rw (e, le-ltb i k.chunks (omega arith)) refl)
    go i j (no l) =
        get_or-append (replicate used (anew next)) (drop used chunks) no_chunk i (omega (arith, length-replicate used (anew next)))
        ∙ get_or-replicate used i (anew next) no_chunk (omega arith) ∙ rw (lt-ltb i k.chunks (omega arith)) refl
