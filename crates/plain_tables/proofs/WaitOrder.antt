-- A wait for any child, read from the last child to the first.
use Rattle.std.proofs.Common.{◌≡◌, Bool, true, false, List, [], ◌∷◌, ◌++◌, refl, sym, ap, ◌∙◌}
use Rattle.std.specs.Prelude.{if◌then◌else◌}
use Rattle.id_maps.specs.OfSysAbi.declared.identity.VPid.{VPid}
use Rattle.plain_tables.specs.declared.process.Process.{Process}
use Rattle.plain_tables.specs.declared.waiting.Waiting.{Waiting}
use Rattle.plain_tables.specs.declared.waiting.Waiting.TheVariants.{NoChild}
use Rattle.plain_tables.specs.Ends.{is_child_of}
use Rattle.plain_tables.specs.Waits.{ended_first, wait_any}

abbrev pub before : VPid → VPid × Process → Waiting → Waiting
before p e later = if is_child_of p e.1 then ended_first e.0 e.1.life later else later

-- what is found once these entries were looked at too, which come before the others
abbrev pub wait_onto : VPid → List (VPid × Process) → Waiting → Waiting
wait_onto p [] found = found
wait_onto p (e ∷ es) found = before p e (wait_onto p es found)

pub wait_onto-none : (p : VPid) (es : List (VPid × Process)) → wait_onto p es NoChild ≡ wait_any p es
wait_onto-none p [] = refl
wait_onto-none p (e ∷ es) = ap (before p e) (wait_onto-none p es)

pub wait_onto-last : (p : VPid) (es : List (VPid × Process)) (e : VPid × Process) (found : Waiting) → wait_onto p (es ++ e ∷ []) found ≡ wait_onto p es (before p e found)
wait_onto-last p [] e found = refl
wait_onto-last p (f ∷ es) e found = ap (before p f) (wait_onto-last p es e found)

pub child_before : (p : VPid) (e : VPid × Process) (found next : Waiting) (child : Bool) → child ≡ is_child_of p e.1 → child ≡ true → next ≡ ended_first e.0 e.1.life found → next ≡ before p e found
child_before p e found next child is told next_is = next_is ∙ ap (λ b. if b then ended_first e.0 e.1.life found else found) (sym told ∙ is)

pub other_before : (p : VPid) (e : VPid × Process) (found : Waiting) (child : Bool) → child ≡ is_child_of p e.1 → child ≡ false → found ≡ before p e found
other_before p e found child is other = ap (λ b. if b then ended_first e.0 e.1.life found else found) (sym other ∙ is)

-- one turn: the last of the entries that were left
pub wait_onto-step : (p : VPid) (es rest : List (VPid × Process)) (e : VPid × Process) (found next whole : Waiting) → es ≡ rest ++ e ∷ [] → next ≡ before p e found → wait_onto p es found ≡ whole → wait_onto p rest next ≡ whole
wait_onto-step p es rest e found next whole is next_is so_far =
    ap (wait_onto p rest) next_is ∙ sym (wait_onto-last p rest e found) ∙ ap (λ l. wait_onto p l found) (sym is) ∙ so_far
