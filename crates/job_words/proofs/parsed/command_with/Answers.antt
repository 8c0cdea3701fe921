use Rattle.std.proofs.Common.{◌∙◌, ap}
use Rattle.std.specs.Prelude.{List, ◌++◌, map}
use Rattle.std.proofs.lemmas.Result.{IfOk-weaker}
use Rattle.clap.specs.Simple.{App}
use Rattle.clap.specs.declared.builder.arg.Arg.{Arg}
use Rattle.job_words.specs.Parsed.{heard, heard_at, rule_at, with_rules}
use Rattle.job_words.proofs.Added.{added_in_turn}
use Rattle.job_words.proofs.parsed.command_with.Goals as goal

pub returns : goal.returns
returns c =
    IfOk-weaker c.args-2.result _ _ (λ command adds. added_in_turn c.plain.result c.add_args.new.args.items command c.args.options.now adds (c.in_ok-add_args.ensures ∙ ap (λ (l : List Arg). map heard l ++ map heard_at c.args.options.now) c.new-args.ensures.items)
    ∙ ap (λ (app : App). with_rules app (map rule_at c.args.options.now)) c.plain.ensures) c.args-2.ensures
