-- The first label of a name, as the code finds it.
use Rattle.std.proofs.Common.{◌≡◌, Bool, true, false, List, [], ◌∷◌, map, find, Option, Some, refl}
use Rattle.std.specs.Prelude.{option_map, if◌then◌else◌}
use Rattle.std.specs.Str.{bytes_eq}
use Rattle.asm_parts.specs.Texts.{Text}
use Rattle.rv_asm.specs.declared.labels.Label.{Label as Found}
use Rattle.rv_asm.specs.Labels.{label_seen}
use Rattle.rv_asm.specs.Layout.{Label, label_in}

-- ---- the first label of a name

seen_by : (name : Text) (x : Found) (rest : Option Found) (more : Option Label) (t : Bool) → option_map label_seen rest ≡ more
    → option_map label_seen (if t then Some x else rest) ≡ (if t then Some (label_seen x) else more)
seen_by name x rest more true is = refl
seen_by name x rest more false is = is

pub label_found : (labels : List Found) (name : Text) → option_map label_seen (find (λ l. bytes_eq l.name.now name) labels) ≡ label_in (map label_seen labels) name
unfolding label_in
label_found [] name = refl
label_found (x ∷ xs) name =
    seen_by name x (find (λ l. bytes_eq l.name.now name) xs) (find (λ (l : Label). bytes_eq l.name name) (map label_seen xs)) (bytes_eq x.name.now name) (label_found xs name)
