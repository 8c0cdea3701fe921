-- Tests of single fields that more than one format has.
--     is_bytes wanted bytes      the bytes are just these
--     is_within least most n      the number lies in this range, its ends included
--     last_item front      the last of the items that stand before
use Rattle.std.specs.Prelude.{ℕ, ◌-◌, ◌&&◌, nat_le, Bool, List, length, slice_get, Option}
use Rattle.std.specs.Str.{bytes_eq}
use Rattle.views.specs.Numbers.{Byte}

abbrev pub is_bytes : List Byte → List Byte → Bool
is_bytes wanted bytes = bytes_eq bytes wanted

abbrev pub is_within : ℕ → ℕ → ℕ → Bool
is_within least most n = nat_le least n && nat_le n most

abbrev pub last_item : {X : Type 0} → List X → Option X
last_item front = slice_get front (length front - 1)
