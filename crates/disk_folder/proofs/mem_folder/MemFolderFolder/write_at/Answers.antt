use Rattle.std.proofs.Common.{◌≡◌, List, ℕ, refl, length, subst, ◌∙◌}
use Rattle.disk_folder.specs.Crash.{Same, Torn}
use Rattle.disk_folder.specs.InMemory.{Answers}
use Rattle.disk_folder.specs.declared.request.Request.TheVariants.{Write}
use Rattle.disk_folder.proofs.TornFiles.{same_torn}
use Rattle.disk_folder.proofs.MemoryFolders.{passes, stays, memory_passes, failed_reads}
use Rattle.disk_folder.proofs.mem_folder.MemFolderFolder.write_at.Goals as goal

pub returns-in_err-from_slice-clause-crash : goal.returns-in_err-from_slice-clause-crash
returns-in_err-from_slice-clause-crash c = stays c.args.self.now (Torn c.args.name c.args.at (length c.args.bytes.now)) (same_torn c.args.name c.args.at (length c.args.bytes.now))

pub returns-in_err-from_slice-clause-memory_crash : goal.returns-in_err-from_slice-clause-memory_crash
returns-in_err-from_slice-clause-memory_crash c _ = stays c.args.self.now Same (λ files. refl)

-- the call that was made has the bytes that were given
given : (c : goal.After-make) → Answers (Write c.args.name c.args.at c.args.bytes.now) c.args.self.now c.make.new.self c.make.result
given c =
    let same : c.from_vec-bytes.result ≡ c.args.bytes.now = c.from_vec-bytes.ensures ∙ c.in_ok-from_slice.ensures.items in
    subst (λ (bytes : List ℕ). Answers (Write c.args.name c.args.at bytes) c.args.self.now c.make.new.self c.make.result) same c.make.ensures

pub returns-clause-failed : goal.returns-clause-failed
returns-clause-failed c is = (_, failed_reads (Write c.args.name c.args.at c.args.bytes.now) c.args.self.now c.make.new.self c.make.result (given c) is, same_torn c.args.name c.args.at (length c.args.bytes.now) _)

pub returns-clause-crash : goal.returns-clause-crash
returns-clause-crash c = passes (Write c.args.name c.args.at c.args.bytes.now) c.args.self.now c.make.new.self c.make.result (given c)

pub returns-clause-memory_crash : goal.returns-clause-memory_crash
returns-clause-memory_crash c = memory_passes (Write c.args.name c.args.at c.args.bytes.now) c.args.self.now c.make.new.self c.make.result (given c)
