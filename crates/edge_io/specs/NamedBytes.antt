-- A map from names to bytes, as the entries of an ordered map of texts and vectors hold it.
use Rattle.std.specs.Prelude.{ℕ, List, map, Vec, vec_items, string_bytes}
use Rattle.std.specs.FinMap.{from_entries}
use Rattle.std.specs.declared.string.String.{String}
use Rattle.edge_io.specs.Inputs.{NamedFiles}

abbrev pub files_of : {A B : Type 0} → List (String A × Vec ℕ B) → NamedFiles
files_of entries = from_entries (map (λ e. (string_bytes e.0, vec_items e.1)) entries)
