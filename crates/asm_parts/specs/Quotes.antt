-- Quoted texts: printable ASCII characters between quotes, with the escapes \n, \0, \\ and \".
--     spelled inside      the bytes that the text between the quotes spells
--     quoted text         the bytes that a text with its quotes spells
use Rattle.std.specs.Prelude.{ℕ, ◌==◌, not, ◌&&◌, ◌||◌, nat_le, if◌then◌else◌, List, [], ◌∷◌, Option, Some, None, option_and_then}
use Rattle.asm_parts.specs.Texts.{Text, QUOTE, BACKSLASH, without_first, without_last}
use Rattle.asm_parts.specs.Operands.{map_2}

-- the byte that a character stands for behind a backslash
unfoldable pub escaped : ℕ → Option ℕ
escaped c =
    if c == 110 then Some 10
    else if c == 48 then Some 0
    else if (c == BACKSLASH) || (c == QUOTE) then Some c
    else None

-- the byte of a character that stands for itself
unfoldable pub plain : ℕ → Option ℕ
plain c = if nat_le 32 c && nat_le c 126 && not (c == BACKSLASH) && not (c == QUOTE) then Some c else None

abbrev pub put_first : Option ℕ → Option (List ℕ) → Option (List ℕ)
put_first first rest = map_2 (λ b bs. b ∷ bs) first rest

unfoldable pub spelled : Text → Option (List ℕ)
spelled [] = Some []
spelled (b ∷ []) = put_first (plain b) (Some [])
spelled (b ∷ c ∷ rest) =
    if b == BACKSLASH then put_first (escaped c) (spelled rest)
    else put_first (plain b) (spelled (c ∷ rest))

unfoldable pub quoted : Text → Option (List ℕ)
quoted text = option_and_then spelled (option_and_then (without_last QUOTE) (without_first QUOTE text))
