use Rattle.std.proofs.Common.{sym, ap, ◌∙◌}
use Rattle.std.specs.Prelude.{Option}
use Rattle.std.specs.Option.{option_map_or}
use Rattle.image_store.specs.declared.set_info.SetInfo.{SetInfo}
use Rattle.worked_drive.proofs.Opening.{follows}
use Rattle.worked_drive.proofs.benches.opening_of.Goals as goal

pub returns-in-Some : goal.returns-in-Some
returns-in-Some c =
    follows c.args.store.now.floor c.args.store.now.last c.in-Some.info.generation c.requires
    (ap (λ (o : Option SetInfo). option_map_or (λ info. info.generation) o 0) (sym c.last.ensures ∙ c.in-Some.is))

pub returns-in-None : goal.returns-in-None
returns-in-None c =
    follows c.args.store.now.floor c.args.store.now.last 0 c.requires
    (ap (λ (o : Option SetInfo). option_map_or (λ info. info.generation) o 0) (sym c.last.ensures ∙ c.in-None.is))
