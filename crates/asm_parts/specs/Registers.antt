-- The registers by their names: by number, and by the calling convention (RISC-V ELF psABI, "Integer Register
-- Convention").
use Rattle.std.specs.Prelude.{ℕ, List, [], ◌∷◌, Option, Some, None, position, codes}
use Rattle.std.specs.Str.{bytes_eq}
use Rattle.asm_parts.specs.Texts.{Text}

abbrev pub numbered : List Text
numbered =
    codes "x0" ∷ codes "x1" ∷ codes "x2" ∷ codes "x3" ∷ codes "x4" ∷ codes "x5" ∷ codes "x6"
    ∷ codes "x7" ∷ codes "x8" ∷ codes "x9" ∷ codes "x10" ∷ codes "x11" ∷ codes "x12" ∷ codes "x13"
    ∷ codes "x14" ∷ codes "x15" ∷ codes "x16" ∷ codes "x17" ∷ codes "x18" ∷ codes "x19"
    ∷ codes "x20" ∷ codes "x21" ∷ codes "x22" ∷ codes "x23" ∷ codes "x24" ∷ codes "x25"
    ∷ codes "x26" ∷ codes "x27" ∷ codes "x28" ∷ codes "x29" ∷ codes "x30" ∷ codes "x31" ∷ []

abbrev pub conventional : List Text
conventional =
    codes "zero" ∷ codes "ra" ∷ codes "sp" ∷ codes "gp" ∷ codes "tp" ∷ codes "t0" ∷ codes "t1"
    ∷ codes "t2" ∷ codes "s0" ∷ codes "s1" ∷ codes "a0" ∷ codes "a1" ∷ codes "a2" ∷ codes "a3"
    ∷ codes "a4" ∷ codes "a5" ∷ codes "a6" ∷ codes "a7" ∷ codes "s2" ∷ codes "s3" ∷ codes "s4"
    ∷ codes "s5" ∷ codes "s6" ∷ codes "s7" ∷ codes "s8" ∷ codes "s9" ∷ codes "s10" ∷ codes "s11"
    ∷ codes "t3" ∷ codes "t4" ∷ codes "t5" ∷ codes "t6" ∷ []

-- the place of a name in a table
abbrev pub named_in : List Text → Text → Option ℕ
named_in names text = position (λ name. bytes_eq name text) names

abbrev pub either : Option ℕ → Option ℕ → Option ℕ
either (Some n) other = Some n
either None other = other

-- the number of the register of this name
unfoldable pub register_of : Text → Option ℕ
register_of text = either (named_in numbered text) (named_in conventional text)
