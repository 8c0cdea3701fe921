-- The operands of a line: what stands behind the space that ends its word, between commas, each without the
-- spaces before it.
--     operands rest              those of a line with this rest, or with none
--     one, two, three            the operands, where there are just so many
--     based text                 the operand `n(rs1)`: an offset and the register to which it is added
use Rattle.std.specs.Prelude.{ℕ, ℤ, List, [], ◌∷◌, map, Option, Some, None, option_and_then}
use Rattle.asm_parts.specs.Texts.{Text, COMMA, OPEN, CLOSE, parts_at, without_spaces, without_last, cut}
use Rattle.asm_parts.specs.Numbers.{signed_number}
use Rattle.asm_parts.specs.Registers.{register_of}

abbrev pub operands : Option Text → List Text
operands None = []
operands (Some rest) = map without_spaces (parts_at COMMA rest)

unfoldable pub one : List Text → Option Text
one (a ∷ []) = Some a
one _ = None

unfoldable pub two : List Text → Option (Text × Text)
two (a ∷ b ∷ []) = Some (a, b)
two _ = None

unfoldable pub three : List Text → Option (Text × Text × Text)
three (a ∷ b ∷ c ∷ []) = Some (a, b, c)
three _ = None

-- a value of several answers, where there is each
abbrev pub map_2 : {A B C : Type 0} → (A → B → C) → Option A → Option B → Option C
map_2 f (Some a) (Some b) = Some (f a b)
map_2 f (Some a) None = None
map_2 f None b = None

abbrev pub map_3 : {A B C D : Type 0} → (A → B → C → D) → Option A → Option B → Option C → Option D
map_3 f (Some a) (Some b) (Some c) = Some (f a b c)
map_3 f (Some a) (Some b) None = None
map_3 f (Some a) None c = None
map_3 f None b c = None

unfoldable pub based : Text → Option (ℤ × ℕ)
based text =
    option_and_then (λ parts.
    map_2 (λ n base. (n, base))
    (signed_number parts.0) (option_and_then register_of (without_last CLOSE parts.1)))
    (cut OPEN text)
