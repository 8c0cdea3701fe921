-- A folder's set spells one state, and so a restart goes on from the state of a cut.
use Rattle.std.proofs.Common.{◌≡◌, ℕ, List, Some, sym, subst, ◌∙◌}
use Rattle.plain_machine.specs.declared.plain.Plain.{Plain}
use Rattle.image_codec.specs.Sets.{SpellsSet as SpellsFilesSet}
use Rattle.image_codec.proofs.SetLaws.{one_state_of_set}
use Rattle.image_codec.proofs.ValidSets.{set_is_valid}
use Rattle.dmtcp_top.specs.OneOrder.{SetIsValid}
use Rattle.image_store.specs.FoundSets.{FoundSet, IsSet}
use Rattle.trace_log.specs.Requests.{CutAt}
use Rattle.dmtcp_top.specs.Promise.{OneState, RoundTrip}
use Rattle.drive.specs.HandedOn.{SpellsState}
use Rattle.dmtcp_top.proofs.SetLaws.{set_laws}

as_set : (found : FoundSet) (generation : ℕ) (images : List (List ℕ)) (g : Plain) → IsSet found generation images → SpellsState images g → SpellsFilesSet found.manifest images generation g
as_set found generation images g is state = record {
  shared = state.shared;
  images = state.processes;
  named = is.manifest;
  spelled = state.spelled;
  stands = state.stands;
}

one_found : (a b : FoundSet) → Some a ≡ Some b → a ≡ b
one_found a b is = cc

pub one_state : OneState
one_state files generation other g h first second =
    let same : first.counts.0 ≡ second.counts.0 = one_found first.counts.0 second.counts.0 (sym first.counts.1 ∙ second.counts.1) in
    let images = set_laws.one _ generation other first.images second.images first.counts second.counts in
    let there = subst (λ (found : FoundSet). IsSet found other second.images) (sym same) second.counts.2 in
    let moved = subst (λ (xs : List (List ℕ)). IsSet first.counts.0 other xs) (sym images) there in
    let state = subst (λ (xs : List (List ℕ)). SpellsState xs h) (sym images) second.state in
    one_state_of_set first.counts.0.manifest first.images generation other g h (as_set first.counts.0 generation first.images g first.counts.2 first.state) (as_set first.counts.0 other first.images h moved state)

pub round_trip : RoundTrip
round_trip g records files generation state cut spells =
    let same = one_state files cut.generation generation cut.state state cut.set spells in
    subst (λ (h : Plain). CutAt g records generation h) same.1 (subst (λ n. CutAt g records n cut.state) same.0 cut.cut)

-- what the files of a set spell is valid
pub set_valid : SetIsValid
set_valid images g bytes spells = (set_is_valid images spells.shared spells.processes g bytes spells.spelled spells.stands).valid
