-- Sessions by computation: their answers, their lists, and what one plain copy answers. The statement says something
use Rattle.std.specs.Prelude.{if◌then◌else◌}
use Prim.Native.Nat.{ℕ}
use mathlib.Core.Path.{◌≡◌, refl, ap, ◌∙◌}
use mathlib.Core.Bool.{true, not}
use mathlib.Core.List.{List, [], ◌∷◌, ◌++◌}
use lib.Dec.{eqb}
use Rattle.one_copy.specs.Types.{Table, Event, Answer}
use Rattle.rules.specs.Chunks.{at_chunk, arrived, decides, ran}
use Rattle.rules.specs.Codes.{◌gives◌⨾◌, code_of}
use Rattle.rules.specs.Creation.{fresh, is_creation}
use Rattle.rules.specs.Events.{all_lost, step, done, refused, rows, kind_of, ranges, rule_of}
use Rattle.rules.specs.Formed.{well_formed}
use Rattle.rules.specs.Hosts.{queue_of, appended, at_host, finish_outcome, finished}
use Rattle.rules.specs.Network.{free_places, sent, how_many, sent_to_each, replied}
use Rattle.rules.specs.Runs.{Told, tell, told, nothing, last_of, is_none}
use Rattle.rules.specs.Settlement.{W, beside_w, agreed, committed, writes, commits, latest, written_with, settled_record, settled}
use Rattle.rules.specs.Waiting.{holding, insert, inserted, head_removed, first_with, mark, marked}
use Rattle.rules.specs.Words.{those, each, joined, every, some, place, fold, from}
use Rattle.rules.proofs.Keeps.{fresh-formed, step-formed}
use Rattle.rules.proofs.Lists.{both}
use Rattle.one_copy.specs.Listed as Listed
use Rattle.one_copy.specs.Listed.{Write, committed_at, entered}
use Rattle.one_copy.specs.Sessions.{entry_of, Seen, Session, seen, plain_reads, sessions}

-- ---- a run's tables are well formed, so that code 8 need not be looked for

abbrev lean : Table → Event → Answer
lean t e =
    let r = rule_of t e in
    let code = code_of (not (ranges t.creation e) gives 1 ⨾ r.refusals) in
    if eqb code 0 then done r.effect else refused t code

lean_is : (t : Table) (e : Event) → well_formed t ≡ true → step t e ≡ lean t e
unfolding step rows code_of
lean_is t e h = rw h refl

-- what the events are answered and what they commit, in one pass
pub record Pass : Type 0 where
  pub told : List Told
  pub committed : List Write

abbrev noting : (block : ℕ) → Table → Event → Answer → Pass → Pass
noting b t e a p = record { told = tell e a ∷ p.told; committed = committed_at b t e a ++ p.committed }

unfoldable pub pass : (block : ℕ) → Table → List Event → Pass
pass b t [] = record { told = []; committed = [] }
pass b t (e ∷ es) = let a = lean t e in noting b t e a (pass b a.table es)

pass_is : (b : ℕ) (t : Table) (es : List Event) → well_formed t ≡ true
    → record { told = told t es; committed = Listed.committed b t es } ≡ pass b t es
unfolding pass told Listed.committed
pass_is b t [] h = refl
pass_is b t (e ∷ es) h =
    ap (noting b t e (step t e)) (pass_is b (step t e).table es (step-formed t e h))
    ∙ ap (λ (a : Answer). noting b t e a (pass b a.table es)) (lean_is t e h)

abbrev pub seen_in : (block : ℕ) → Pass → Seen
seen_in b p =
    let all = fold (λ l w. entered w l) [] p.committed in
    record {
      refusals = those (λ code. not (eqb code 0)) (each (λ m. m.code) p.told);
      outcomes = those (λ o. not (is_none o)) (each (λ m. m.outcome) p.told);
      list = each entry_of all;
      plain = plain_reads b all nothing p.told;
    }

abbrev pub quickly : Session → Seen
quickly s = seen_in s.block (pass s.block (fresh s.creation) s.events)

seen-quickly : (l : List Session) → every (λ s. is_creation s.creation) l ≡ true → each seen l ≡ each quickly l
unfolding each every
seen-quickly [] h = refl
seen-quickly (s ∷ l) h =
    let r = both (is_creation s.creation) _ h in
    let now : seen s ≡ quickly s = ap (seen_in s.block) (pass_is s.block (fresh s.creation) s.events (fresh-formed s.creation r.0)) in
    ap (λ (x : Seen). x ∷ each seen l) now ∙ ap (λ (m : List Seen). quickly s ∷ m) (seen-quickly l r.1)

created : every (λ s. is_creation s.creation) sessions ≡ true
unfolding is_creation every some from
created = refl

computed : each quickly sessions ≡ each (λ (s : Session). s.expected) sessions
unfolding pass ranges rule_of kind_of code_of fresh at_chunk arrived decides ran queue_of appended at_host finish_outcome finished free_places sent how_many sent_to_each replied W beside_w agreed committed writes commits latest written_with settled_record settled all_lost holding insert inserted head_removed first_with mark marked those each joined every some place fold from last_of plain_reads entered
computed = refl

-- what is seen of each session is what must be
pub sessions_hold : each seen sessions ≡ each (λ (s : Session). s.expected) sessions
sessions_hold = seen-quickly sessions created ∙ computed
