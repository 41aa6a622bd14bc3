-- Document 01, "One session, whole": the line of an answer, and a line that is gathered byte by byte
use Rattle.std.specs.Prelude.{ℕ, zero, suc, ◌+◌, ◌/◌, ◌%◌, Bool, List, [], ◌∷◌, ◌++◌, length, set, take, drop, eqb, ltb, if◌then◌else◌, Some, None}
use Rattle.rules.specs.declared.Outcome.{Outcome}
use Rattle.rules.specs.Codes.{numbers_of}
use Rattle.rules.specs.Words.{each, place, fold, filled}
use Rattle.text_numbers.specs.Lines.{space, newline, line_limit}
use Rattle.text_lines.specs.declared.Text.{Text}
use Rattle.text_lines.specs.declared.Cut.{Cut}

-- ---- "It writes a line an event: code, outcome, host, block, value. Numbers are decimal, one space apart"

-- the digits of a number that has at most k of them, the greatest place first
unfoldable pub digits_in : (k n : ℕ) → List ℕ
digits_in zero n = []
digits_in (suc k) n = if ltb n 10 then (48 + n) ∷ [] else digits_in k (n / 10) ++ (48 + n % 10) ∷ []

-- a 64-bit number has at most 20
abbrev pub decimal : ℕ → List ℕ
decimal n = digits_in 20 n

-- the words, one space apart
unfoldable pub spaced : List (List ℕ) → List ℕ
spaced [] = []
spaced (w ∷ []) = w
spaced (w ∷ v ∷ ws) = w ++ space ∷ spaced (v ∷ ws)

abbrev pub line_with : List ℕ → List ℕ
line_with ns = spaced (each decimal ns) ++ newline ∷ []

-- so a bad line gets the line of code 1 and no outcome, `1 0 0 0 0`
unfoldable pub answer_line : (code : ℕ) → Outcome → List ℕ
answer_line code o =
    let n = numbers_of o in
    line_with (code ∷ n.kind ∷ n.host ∷ n.block ∷ n.value ∷ [])

-- ---- bytes in an array: as many as a line may have, and one more, by which a line that is too long is known

abbrev pub text_limit : ℕ
text_limit = line_limit + 1

-- the bytes of l, as far as there is room, the unused places 0
unfoldable pub text_of : List ℕ → Text
text_of l = record { bytes = filled text_limit 0 l; count = length (take text_limit l) }

-- one byte more, where there is room
unfoldable pub followed : Text → (byte : ℕ) → Text
followed t b = if ltb t.count text_limit then record { bytes = set t.bytes t.count b; count = t.count + 1 } else t

-- the bytes that a text holds
abbrev pub bytes_of : Text → List ℕ
bytes_of t = take t.count t.bytes

-- ---- lines in a block of input: "an event a line"

abbrev pub is_newline : (byte : ℕ) → Bool
is_newline b = eqb b newline

-- the text t goes on with the bytes of the block from a place on, up to the first newline: then the line is whole, and the next
-- one begins after it. Without a newline it goes on with all that is left, and the line goes on in the next block
unfoldable pub cut_at : (block : List ℕ) → (at : ℕ) → Text → Cut
cut_at block at t =
    let rest = drop at block in
    let n = place is_newline rest in
    record { text = fold followed t (take n rest); next = if ltb n (length rest) then Some (at + n + 1) else None }
