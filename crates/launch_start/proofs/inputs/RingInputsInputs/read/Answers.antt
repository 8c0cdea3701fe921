use Rattle.std.proofs.Common.{Some, sym, ap, ◌∙◌}
use Rattle.std.specs.FinMap as map_of
use Rattle.option_words.proofs.Numbers.{text_is, text_is_not}
use Rattle.launch_start.specs.RingJobs.{RING, ring_files}
use Rattle.launch_start.proofs.RingFiles.{files_hold, files_lack}
use Rattle.launch_start.proofs.inputs.RingInputsInputs.read.Goals as goal

pub returns-in_ok-ring_program-clause-told : goal.returns-in_ok-ring_program-clause-told
returns-in_ok-ring_program-clause-told c =
    let same = text_is c.args.name.now RING c.eq.result c.eq.ensures c.if-eq.true in
    ap (λ file. Some file) c.in_ok-ring_program.ensures.file ∙ sym (ap (map_of.get ring_files) same ∙ files_hold)

pub returns-else-eq-clause-told : goal.returns-else-eq-clause-told
returns-else-eq-clause-told c = sym (files_lack c.args.name.now (text_is_not c.args.name.now RING c.eq.result c.eq.ensures c.if-eq.false))
