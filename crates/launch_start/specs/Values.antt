-- What the processes of the ring leave, and the line that tells it.
--     content_named k name  the bytes of the file of this name, none where there is no such file
--     summary n v w         the line of a ring of n processes
use Rattle.std.specs.Prelude.{ℕ, List, [], ◌++◌, codes, unwrap_or}
use Rattle.std.specs.Option.{option_and_then}
use Rattle.std.specs.Fmt.{decimal}
use Rattle.std.specs.FinMap as map_of
use Rattle.plain_machine.specs.declared.kernel.PlainKernel.{PlainKernel}
use Rattle.option_words.specs.Options.{Text}

abbrev pub content_named : PlainKernel → Text → List ℕ
content_named k name =
    unwrap_or (option_and_then (λ number. map_of.get k.files number) (map_of.get k.names name)) []

-- as `ring 8: value 3600, restart value 3600`
abbrev pub summary : ℕ → List ℕ → List ℕ → List ℕ
summary n v w =
    codes "ring " ++ decimal n ++ codes ": value " ++ v ++ codes ", restart value " ++ w ++ codes "\n"
