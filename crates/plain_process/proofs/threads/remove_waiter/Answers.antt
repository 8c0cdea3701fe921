use Rattle.std.proofs.Common.{not, rules}
use Rattle.std.specs.Prelude.{◌==◌}
use Rattle.std.proofs.lemmas.Fn.{filter_same}
use Rattle.plain_process.proofs.threads.remove_waiter.Goals as goal

pub returns : goal.returns
returns c = filter_same _ (λ waiter. not (waiter.tid == c.args.t)) _ (λ x b f' r. search rules) _ _ c.retain.ensures.filtered
