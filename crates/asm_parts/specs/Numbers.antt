-- Numbers: decimal digits with an optional `-`, or `0x` and hexadecimal digits. No field has more than 32
-- bits, so a number of more is in none.
--     numeral base text          the number that digits spell
--     number_of text             the number of a text
--     number_in low high text    the same, where it is in these bounds
--     signed_number, upper_number, word_number, byte_number, zeros_number      what fields hold
use Rattle.std.specs.Prelude.{ℕ, ◌*◌, ◌^◌, ◌&&◌, nat_lt, if◌then◌else◌, length, Option, Some, None, ℤ, pos, negsuc, neg_ℤ, int_le, option_map, option_and_then}
use Rattle.std.specs.Char.{is_digit}
use Rattle.std.specs.List.{list_all}
use Rattle.std.specs.Str.Parse.{digits_value}
use Rattle.std.specs.Int.{w8, cast_unsigned}
use Rattle.plain_process.specs.Instructions.{signed, word}
use Rattle.asm_parts.specs.Texts.{Text, MINUS, without_first}

unfoldable pub numeral : ℕ → Text → Option ℕ
numeral base text =
    if nat_lt 0 (length text) && list_all (λ b. is_digit b base) text
    && nat_lt (digits_value base text) (2 ^ 32)
    then Some (digits_value base text) else None

-- what stands behind `0x`
abbrev pub behind_0x : Text → Option Text
behind_0x text = option_and_then (without_first 120) (without_first 48 text)

abbrev pub unsigned_by : Option Text → Text → Option ℤ
unsigned_by (Some digits) text = option_map (λ n. pos n) (numeral 16 digits)
unsigned_by None text = option_map (λ n. pos n) (numeral 10 text)

abbrev pub number_by : Option Text → Text → Option ℤ
number_by (Some digits) text = option_map (λ n. neg_ℤ (pos n)) (numeral 10 digits)
number_by None text = unsigned_by (behind_0x text) text

unfoldable pub number_of : Text → Option ℤ
number_of text = number_by (without_first MINUS text) text

-- a number, if it is in these bounds
abbrev pub bounded : ℤ → ℤ → Option ℤ → Option ℤ
bounded low high None = None
bounded low high (Some z) = if int_le low z && int_le z high then Some z else None

unfoldable pub number_in : ℤ → ℤ → Text → Option ℤ
number_in low high text = bounded low high (number_of text)

-- an immediate with its sign, from -2^31 to 2^31 - 1; whether it fits its field is told where the word is
-- made. `negsuc n` is -(n + 1)
unfoldable pub signed_number : Text → Option ℤ
signed_number text = number_in (negsuc 0x7FFFFFFF) (pos 0x7FFFFFFF) text

-- the upper 20 bits of a word
unfoldable pub upper_number : Text → Option ℤ
upper_number text =
    option_map (λ n. signed (n * 0x1000)) (option_map word (number_in (pos 0) (pos 0xFFFFF) text))

-- a word, signed or unsigned
unfoldable pub word_number : Text → Option ℕ
word_number text = option_map word (number_in (negsuc 0x7FFFFFFF) (pos 0xFFFFFFFF) text)

-- a byte, signed or unsigned
unfoldable pub byte_number : Text → Option ℕ
byte_number text = option_map (cast_unsigned w8) (number_in (negsuc 127) (pos 255) text)

-- how many zeros a line may have
unfoldable pub zeros_number : Text → Option ℕ
zeros_number text = option_map word (number_in (pos 0) (pos 1048576) text)
