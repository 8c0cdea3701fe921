-- The code of a history, by which it may be a model's value.
use Rattle.std.specs.Prelude.{ℕ, List, refl}
use Rattle.std.specs.Coded.{Coded, code_by, coded×, coded_ℕ, coded_list}
use Rattle.disk_folder.specs.Files.{FolderFiles}
use Rattle.disk_folder.specs.FilesCode.{coded_files}
use Rattle.disk_folder.specs.History.{History}
use Rattle.disk_folder.specs.declared.call.Call.{Call}
use Rattle.disk_folder.specs.contracts.call.Call as call

abbrev pub coded_history : Coded History
coded_history =
    code_by (FolderFiles × (List Call × List ℕ))
    (coded× coded_files (coded× (coded_list call.the_row.coded) (coded_list coded_ℕ)))
    (λ h. (h.start, (h.calls, h.fails))) (λ p. record { start = p.0; calls = p.1.0; fails = p.1.1 })
    (λ _. refl)
