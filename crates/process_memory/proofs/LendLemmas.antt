-- What a call is lent, from what was found of its buffers.
use Rattle.std.proofs.Common.{◌≡◌, List, ℕ, refl, sym, ap, ◌∙◌, true, false, if◌then◌else◌}
use Rattle.std.specs.Prelude.{Option, Some, None, option_and_then}
use Rattle.std.specs.List.{list_all}
use Rattle.call_table.specs.declared.request.Request.{Request}
use Rattle.plain_process.specs.declared.buffers.Source.{Source}
use Rattle.plain_process.specs.declared.buffers.Span.{Span}
use Rattle.plain_process.specs.Memory.{Memory}
use Rattle.plain_process.specs.Buffers.{bytes_of, reads_of, written_spans, can_write, if_writable, given_of, lent}

lent_by : (memory : Memory) (q : Request) (source : Source) (given : Option (List ℕ)) → source ≡ reads_of q → bytes_of memory source ≡ given
    → lent memory q ≡ option_and_then (if_writable memory q) given
unfolding lent given_of
lent_by memory q source given from bytes = ap (option_and_then (if_writable memory q)) (ap (bytes_of memory) (sym from) ∙ bytes)

pub unreadable : (memory : Memory) (q : Request) (source : Source) → source ≡ reads_of q → bytes_of memory source ≡ None → lent memory q ≡ None
unreadable memory q source from bytes = lent_by memory q source None from bytes

no_write : (memory : Memory) (q : Request) (given : Option (List ℕ)) → list_all (can_write memory) (written_spans memory q) ≡ false → option_and_then (if_writable memory q) given ≡ None
no_write memory q None refused = refl
no_write memory q (Some bytes) refused = ap (λ b. if b then Some bytes else None) refused

pub unwritable : (memory : Memory) (q : Request) (source : Source) (spans : List Span) → source ≡ reads_of q → spans ≡ written_spans memory q → list_all (can_write memory) spans ≡ false → lent memory q ≡ None
unwritable memory q source spans from to refused =
    lent_by memory q source (bytes_of memory source) from refl ∙ no_write memory q (bytes_of memory source) (ap (list_all (can_write memory)) (sym to) ∙ refused)

pub lent_whole : (memory : Memory) (q : Request) (source : Source) (spans : List Span) (given : List ℕ) → source ≡ reads_of q → spans ≡ written_spans memory q
    → bytes_of memory source ≡ Some given → list_all (can_write memory) spans ≡ true → lent memory q ≡ Some given
lent_whole memory q source spans given from to bytes allowed =
    lent_by memory q source (Some given) from bytes ∙ ap (λ b. if b then Some given else None) (ap (list_all (can_write memory)) (sym to) ∙ allowed)
