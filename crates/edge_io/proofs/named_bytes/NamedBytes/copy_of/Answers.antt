use Rattle.std.proofs.Common.{option_map, vec_items, Some, sym, ap, ◌∙◌}
use Rattle.std.specs.FinMap as map
use Rattle.edge_io.proofs.FilesOf.{get-files_of}
use Rattle.edge_io.proofs.named_bytes.NamedBytes.copy_of.Goals as goal

pub returns-in_ok-from_slice-in-Some : goal.returns-in_ok-from_slice-in-Some
returns-in_ok-from_slice-in-Some c =
    ap Some (c.in_ok-from_slice-in-Some.ensures.items ∙ c.deref.ensures.value)
    ∙ ap (option_map vec_items) c.in-Some.ensures.value
    ∙ sym (get-files_of c.self.inside.entries c.args.name.now)
    ∙ ap (λ m. map.get m c.args.name.now) c.self.view_is

pub returns-in-None : goal.returns-in-None
returns-in-None c =
    ap (option_map vec_items) c.in-None.ensures.value
    ∙ sym (get-files_of c.self.inside.entries c.args.name.now)
    ∙ ap (λ m. map.get m c.args.name.now) c.self.view_is
