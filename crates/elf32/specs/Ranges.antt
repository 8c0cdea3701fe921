-- Ranges of addresses, each from its start to before its end.
use Rattle.std.specs.Prelude.{Bool, ◌&&◌, nat_lt}
use Rattle.elf32.specs.declared.range.AddressRange.{AddressRange}

-- some address is in both of two ranges that are not empty
abbrev pub meets : AddressRange → AddressRange → Bool
meets a b = nat_lt a.start b.end && nat_lt b.start a.end
