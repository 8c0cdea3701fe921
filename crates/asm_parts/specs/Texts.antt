-- Texts, as lists of their bytes, and the pieces that a program's text is made of.
--     parts_at c text            what stands between the bytes c: one part more than there are such bytes
--     lines_of text              its lines; behind the newline at its end stands one more, which is empty
--     cut c text                 what stands before the first byte c and what behind it, if there is one
--     without_spaces text        the text without the spaces at its start
--     without_first c text       the text behind the byte c at its start, if it starts so
--     without_last c text        the text before the byte c at its end, if it ends so
--     is_name text               a name has letters, digits, `_` and `.`, and no digit first
use Rattle.std.specs.Prelude.{ℕ, ◌==◌, Bool, false, not, ◌&&◌, ◌||◌, nat_lt, if◌then◌else◌, List, [], ◌∷◌, length, drop, Option, Some, None, option_map}
use Rattle.std.specs.Char.{is_ascii_alphanumeric, is_ascii_digit}
use Rattle.std.specs.List.{slice_split, list_all, position_or_len, before_first, after_first, prefix_len}
use denote.Ref.{Bor}

abbrev pub Text : Type 0
Text = List ℕ

abbrev pub NEWLINE : ℕ
NEWLINE = 10

abbrev pub SPACE : ℕ
SPACE = 32

abbrev pub QUOTE : ℕ
QUOTE = 34

abbrev pub HASH : ℕ
HASH = 35

abbrev pub OPEN : ℕ
OPEN = 40

abbrev pub CLOSE : ℕ
CLOSE = 41

abbrev pub PLUS : ℕ
PLUS = 43

abbrev pub MINUS : ℕ
MINUS = 45

abbrev pub COMMA : ℕ
COMMA = 44

abbrev pub COLON : ℕ
COLON = 58

abbrev pub BACKSLASH : ℕ
BACKSLASH = 92

abbrev pub parts_at : ℕ → Text → List Text
parts_at c text = slice_split (λ b. b == c) text

abbrev pub lines_of : Text → List Text
lines_of text = parts_at NEWLINE text

abbrev pub has_byte : ℕ → Text → Bool
has_byte c text = nat_lt (position_or_len (λ b. b == c) text) (length text)

unfoldable pub cut : ℕ → Text → Option (Text × Text)
cut c text =
    if has_byte c text then Some (before_first (λ b. b == c) text, after_first (λ b. b == c) text) else None

unfoldable pub without_spaces : Text → Text
without_spaces text = drop (prefix_len (λ b. b == SPACE) text) text

unfoldable pub without_first : ℕ → Text → Option Text
without_first c [] = None
without_first c (b ∷ rest) = if b == c then Some rest else None

unfoldable pub without_last : ℕ → Text → Option Text
without_last c [] = None
without_last c (b ∷ []) = if b == c then Some [] else None
without_last c (b ∷ d ∷ rest) = option_map (λ front. b ∷ front) (without_last c (d ∷ rest))

abbrev pub is_name_byte : ℕ → Bool
is_name_byte b = is_ascii_alphanumeric b || (b == 95) || (b == 46)

abbrev pub begins_name : Text → Bool
begins_name [] = false
begins_name (b ∷ _) = not (is_ascii_digit b)

unfoldable pub is_name : Text → Bool
is_name text = begins_name text && list_all is_name_byte text

-- the text that may stand behind a line's word
abbrev pub behind : Option (Bor Text) → Option Text
behind rest = option_map (λ text. text.now) rest

-- the text, if it is a name
abbrev pub name_in : Text → Option Text
name_in text = if is_name text then Some text else None
