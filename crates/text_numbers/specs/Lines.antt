-- Document 01, "One session, whole": a line of input, and the numbers that it says
use Rattle.std.specs.Prelude.{ℕ, ◌+◌, ◌*◌, ◌-◌, ◌^◌, Bool, ◌&&◌, List, [], ◌∷◌, ◌++◌, length, eqb, leb, ltb, if◌then◌else◌, Option, Some, None}
use Rattle.rules.specs.Limits.{block_limit}
use Rattle.rules.specs.Words.{each, every, fold, filled}
use Rattle.text_numbers.specs.declared.Line.{Line}

-- ---- bytes

abbrev pub space : ℕ
space = 32

abbrev pub newline : ℕ
newline = 10

-- the digits 0 to 9 are the bytes 48 to 57
abbrev pub is_digit : ℕ → Bool
is_digit byte = leb 48 byte && leb byte 57

-- ---- "Numbers are decimal, one space apart"

-- the words from the last space on: w has come since, l comes now
unfoldable pub words_after : (w l : List ℕ) → List (List ℕ)
words_after w [] = w ∷ []
words_after w (c ∷ l) = if eqb c space then w ∷ words_after [] l else words_after (w ++ c ∷ []) l

-- what stands before, between and behind the spaces of a line: k spaces make k + 1 words, empty ones too
abbrev pub words : List ℕ → List (List ℕ)
words l = words_after [] l

-- the number that digits say; zeros in front change nothing
unfoldable pub value : List ℕ → ℕ
value w = fold (λ n d. n * 10 + (d - 48)) 0 w

-- bad is what is "not a number, a number above 64 bits": no digit at all, any other byte, 2 to the power 64 or more
unfoldable pub is_number : List ℕ → Bool
is_number w = ltb 0 (length w) && every is_digit w && ltb (value w) (2 ^ 64)

-- ---- a line

-- ".. longer than 120 bytes", without its newline
abbrev pub line_limit : ℕ
line_limit = 120

-- so an empty line, a space in front, behind or doubled, a tab, a sign and a carriage return are bad
unfoldable pub is_line : List ℕ → Bool
is_line l = leb (length l) line_limit && every is_number (words l)

-- no line of a session has more numbers than the second: one a block
abbrev pub number_limit : ℕ
number_limit = block_limit

-- the numbers of the words, and how many words there are
abbrev pub saying : List (List ℕ) → Line
saying ws = record { count = length ws; numbers = filled number_limit 0 (each value ws) }

-- what a line of input says, given without its newline; a bad one says nothing
unfoldable pub line_of : List ℕ → Option Line
line_of l = if is_line l then Some (saying (words l)) else None
