use Rattle.std.proofs.Common.{[], ◌∷◌, ◌++◌, sym, ap, subst, ◌∙◌, arith}
use Rattle.std.proofs.lemmas.List.Elements.{All-nil}
use Rattle.plain_machine.specs.Start.{with_file}
use Rattle.plain_machine.specs.Valid.{IsValid}
use Rattle.plain_machine.proofs.StartKernels.{start_is_valid}
use Rattle.computation.proofs.Numbered.{OnOk-map}
use Rattle.run_start.proofs.Starts.{file_fits, file_added, no_guests, all_arrived_at, no_datagrams_at}
use Rattle.run_start.proofs.start.Start.add_file.Goals as goal

pub add_file-requires : goal.add_file-requires
add_file-requires c = file_fits c.args.self.now c.requires.0 (record { name = c.args.name.now; bytes = c.args.bytes.now }) c.requires.1.0 c.requires.1.1.count

pub returns-clause-start : goal.returns-clause-start
returns-clause-start c = OnOk-map c.add_file.result (λ kernel files is.
    file_added c.args.self.now c.add_file.new.self files (record { name = c.args.name.now; bytes = c.args.bytes.now }) is
    (kernel ∙ ap (λ name. with_file c.args.self.now.kernel (record { name = name; bytes = c.in_ok-bytes.bytes })) c.in_ok-name.ensures
    ∙ ap (λ bytes. with_file c.args.self.now.kernel (record { name = c.args.name.now; bytes = bytes })) c.in_ok-bytes.ensures)) c.add_file.ensures.ok

pub returns-clause-ready : goal.returns-clause-ready
returns-clause-ready c = OnOk-map c.add_file.result (λ starts. record {
  valid = subst IsValid (sym (starts c.requires.0 c.requires.1.0))
      (start_is_valid [] (c.requires.0 ++ record { name = c.args.name.now; bytes = c.args.bytes.now } ∷ []) (omega arith) (All-nil _) c.requires.1.1);
  numbered = λ p guest there. absurd (no_guests c.args.self.now c.requires.0 p guest c.requires.1.0 there);
  arrived = all_arrived_at c.add_file.new.self c.args.self.now.guests [] _ (starts c.requires.0 c.requires.1.0);
  plain = no_datagrams_at c.add_file.new.self c.args.self.now.guests [] _ (starts c.requires.0 c.requires.1.0);
}) (returns-clause-start c)
