-- A word is read digit by digit: what one byte makes of the number so far, and the whole word. The promises of private functions cite
-- these
use Rattle.std.specs.Prelude.{ℕ, ◌+◌, ◌*◌, ◌-◌, ◌^◌, ◌&&◌, List, ltb, if◌then◌else◌, Option, Some, None}
use Rattle.text_numbers.specs.Lines.{is_digit, is_number, value}

-- a digit more, as long as the number fits 64 bits
abbrev pub continued : (number byte : ℕ) → Option ℕ
continued n c = if is_digit c && ltb (n * 10 + (c - 48)) (2 ^ 64) then Some (n * 10 + (c - 48)) else None

-- the number that a word is
unfoldable pub number_of : List ℕ → Option ℕ
number_of w = if is_number w then Some (value w) else None
