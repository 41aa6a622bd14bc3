-- A promise `answer ≡ definition of the arguments` determines the answer
use mathlib.Core.Path.{◌≡◌, sym, ap, ◌∙◌}
use Rattle.rules.specs.Types.{Table, Event, Answer}
use Rattle.rules.specs.Codes.{numbers_of}
use Rattle.rules.specs.Events.{step}
use Rattle.rules.proofs.U64FromRefused.from.Reads as code_contract
use Rattle.rules.proofs.ReplyFromResultOutcomeRefused.from.Reads as reply_contract

-- whatever the definition
pub unique : {A : Type 0} {x y definition : A} → x ≡ definition → y ≡ definition → x ≡ y
unique p q = p ∙ sym q

-- of a function's contract, by what its callers learn: for the same arguments any two answers are one. Each crate's Unique shows it of
-- each of its public functions, refused inputs included, since no contract there has a `requires`
abbrev pub Determined : {K : Type 0} {Arguments Result Exit : K → Type 0} → ((κs : K) → Arguments κs → Result κs → Exit κs → Type 0) → Type 0
Determined {K} {Arguments} {Result} {Exit} learnt =
    (κs : K) (a : Arguments κs) (x y : Result κs) (s u : Exit κs) → learnt κs a x s → learnt κs a y u → x ≡ y

-- of a refusal's code, and of what the caller of an event is told
code-unique : Determined code_contract.Learnt
code-unique κs a x y s u = unique

reply-unique : Determined reply_contract.Learnt
reply-unique κs a x y s u = unique

-- of an event's answer: the complete table, the code and the numbers of the outcome
pub step-unique : (t : Table) (e : Event) (a b : Answer) → a ≡ step t e → b ≡ step t e
    → (a.table ≡ b.table) × (a.code ≡ b.code) × (numbers_of a.outcome ≡ numbers_of b.outcome)
step-unique t e a b h k =
    let same : a ≡ b = unique h k in
    (ap (λ (x : Answer). x.table) same, ap (λ (x : Answer). x.code) same, ap (λ (x : Answer). numbers_of x.outcome) same)
