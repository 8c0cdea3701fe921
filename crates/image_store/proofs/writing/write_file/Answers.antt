use Rattle.std.specs.FinMap as files_by_name
use Rattle.disk_folder.specs.Files.{with_cut, with_write}
use Rattle.image_store.specs.SlotWrites.{OnlyFile}
use Rattle.image_store.proofs.Passing.{passes_then, passes_widen, reads_ok}
use Rattle.image_store.proofs.SlotSteps.{only_cut, only_torn, only_then}
use Rattle.image_store.proofs.SlotFiles.{written_file}
use Rattle.image_store.proofs.writing.write_file.Goals as goal

pub returns-in_err-cut-clause-crash : goal.returns-in_err-cut-clause-crash
returns-in_err-cut-clause-crash g c = passes_widen (OnlyFile c.args.name) c.cut.ensures.crash (λ old new cut. only_cut c.args.name 0 old new cut)

pub returns-clause-written : goal.returns-clause-written
returns-clause-written g c =
    reads_ok c.write_at.result _ _ _ (λ files. with_cut files c.args.name 0) (λ files. with_write files c.args.name 0 c.args.bytes.now) (λ files. files_by_name.insert files c.args.name c.args.bytes.now)
    c.in_ok-cut.ensures.cut c.write_at.ensures.written (λ files is. written_file files c.args.name c.args.bytes.now)

pub returns-clause-crash : goal.returns-clause-crash
returns-clause-crash g c =
    passes_then (OnlyFile c.args.name) c.cut.ensures.crash c.write_at.ensures.crash (λ old new cut. only_cut c.args.name 0 old new cut)
    (λ old mid new cut torn. only_then c.args.name old mid new (only_cut c.args.name 0 old mid cut) (only_torn c.args.name 0 _ mid new torn))
