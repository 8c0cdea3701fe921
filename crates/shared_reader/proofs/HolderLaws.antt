-- What the holders of a description are is all that tells whether it is rightly held
use Rattle.std.proofs.Common.{◌≡◌, ◌==◌, ◌&&◌, ◌||◌, ℕ, Bool, true, false, not, cond, List, [], ◌∷◌, inl, inr, refl, sym, ap, subst, ◌∙◌, arith}
use Rattle.std.specs.Prelude.{Option, Some, None, fold, ◌⊎◌}
use Rattle.std.specs.List.{list_any, list_all}
use Rattle.std.proofs.lemmas.Bool.Decides.{nat_tests}
use Rattle.views.proofs.MapLaws.{true_false}
use Rattle.sys_abi.specs.declared.identity.DescId.{DescId}
use Rattle.shared_items.specs.declared.shared.ChannelImage.{ChannelImage}
use Rattle.shared_items.specs.declared.shared.DescriptorEntry.{DescriptorEntry}
use Rattle.shared_items.specs.declared.shared.DescriptionImage.{DescriptionImage}
use Rattle.shared_items.specs.declared.shared.ProcessEntry.{ProcessEntry}
use Rattle.shared_items.specs.WholeShared.{names_description, holds, may_hold, is_rightly_held_by, is_rightly_held, is_owner, is_object_of_host}
use Rattle.shared_items.proofs.Keys.{turned}
use Rattle.shared_reader.specs.declared.holders.Holders.{Holders}
use Rattle.shared_reader.specs.declared.holders.Holders.TheVariants.{OfHost, Apart}
use Rattle.shared_reader.specs.HoldersOf.{with_holder, after_descriptor, after_process, holders_of, may_be_of, verdict}

same : (n : ℕ) → (n == n) ≡ true
same n = grind (arith, nat_tests)

equal : (a b : ℕ) → (a == b) ≡ true → a ≡ b
equal a b e = grind (arith, nat_tests)

-- a descriptor more of the same process tells nothing new

twice : (found : Option Holders) (host : ℕ) → with_holder (with_holder found host) host ≡ with_holder found host
twice None host = ap (λ b. cond b (Some (OfHost host)) (Some Apart)) (same host)
twice (Some (OfHost other)) host =
    elim (other == host) as (λ b. (other == host) ≡ b → with_holder (cond b (Some (OfHost other)) (Some Apart)) host ≡ cond b (Some (OfHost other)) (Some Apart)) [
      | true ↦ λ e. ap (λ b. cond b (Some (OfHost other)) (Some Apart)) e
      | false ↦ λ e. refl
    ] refl
twice (Some Apart) host = refl

seen : (named rest : Bool) (found : Option Holders) (host : ℕ)
    → cond rest (with_holder (cond named (with_holder found host) found) host) (cond named (with_holder found host) found) ≡ cond (named || rest) (with_holder found host) found
seen true true found host = twice found host
seen true false found host = refl
seen false rest found host = refl

alike : (b : Bool) → cond b (Some Apart) (Some Apart) ≡ Some Apart
alike true = refl
alike false = refl

pub and_assoc : (a b c : Bool) → ((a && b) && c) ≡ (a && (b && c))
and_assoc true b c = refl
and_assoc false b c = refl

or_true : (b : Bool) → (b || true) ≡ true
or_true true = refl
or_true false = refl

both : (a b : Bool) → (a && b) ≡ true → (a ≡ true) × (b ≡ true)
both true true e = (refl, refl)
both true false e = true_false (sym e)
both false b e = true_false (sym e)

module _ (id : DescId) where
  one_process : (host : ℕ) (found : Option Holders) (descriptors : List DescriptorEntry)
      → fold (after_descriptor id host) found descriptors ≡ cond (list_any (names_description id) descriptors) (with_holder found host) found
  one_process host found [] = refl
  one_process host found (d ∷ descriptors) =
      one_process host (after_descriptor id host found d) descriptors ∙ seen (names_description id d) (list_any (names_description id) descriptors) found host

  apart : (processes : List ProcessEntry) → fold (after_process id) (Some Apart) processes ≡ Some Apart
  apart [] = refl
  apart (p ∷ processes) =
      ap (λ found. fold (after_process id) found processes) (one_process p.host (Some Apart) p.descriptors ∙ alike (holds id p)) ∙ apart processes

  -- a process does not hold the description, or is of the host
  abbrev is_at : ℕ → ProcessEntry → Bool
  is_at host p = not (holds id p) || (p.host == host)

  goes_on : (host : ℕ) (processes : List ProcessEntry) (held here : Bool) → fold (after_process id) (Some (OfHost host)) processes ≡ cond (list_all (is_at host) processes) (Some (OfHost host)) (Some Apart)
      → fold (after_process id) (cond held (cond here (Some (OfHost host)) (Some Apart)) (Some (OfHost host))) processes
      ≡ cond ((not held || here) && list_all (is_at host) processes) (Some (OfHost host)) (Some Apart)
  goes_on host processes true true rest = rest
  goes_on host processes true false rest = apart processes
  goes_on host processes false here rest = rest

  of_host : (host : ℕ) (processes : List ProcessEntry) → fold (after_process id) (Some (OfHost host)) processes ≡ cond (list_all (is_at host) processes) (Some (OfHost host)) (Some Apart)
  of_host host [] = refl
  of_host host (p ∷ processes) =
      ap (λ found. fold (after_process id) found processes) (one_process p.host (Some (OfHost host)) p.descriptors)
      ∙ goes_on host processes (holds id p) (host == p.host) (of_host host processes)
      ∙ ap (λ here. cond ((not (holds id p) || here) && list_all (is_at host) processes) (Some (OfHost host)) (Some Apart)) (turned host p.host)

  -- the first process that holds it decides of which host all must be
  record HasFirst (processes : List ProcessEntry) : Type 0 where
    first : ProcessEntry
    held : holds id first ≡ true
    among : (test : ProcessEntry → Bool) → list_all test processes ≡ true → test first ≡ true
    some : list_any (holds id) processes ≡ true
    found : holders_of processes id ≡ cond (list_all (is_at first.host) processes) (Some (OfHost first.host)) (Some Apart)

  abbrev HasNone : List ProcessEntry → Type 0
  HasNone processes = (holders_of processes id ≡ None) × (list_any (holds id) processes ≡ false)

  here : (p : ProcessEntry) (processes : List ProcessEntry) → holds id p ≡ true → HasFirst (p ∷ processes)
  here p processes e = record {
    first = p;
    held = e;
    among = λ test h. (both (test p) (list_all test processes) h).0;
    some = ap (λ b. b || list_any (holds id) processes) e;
    found =
        ap (λ found. fold (after_process id) found processes) (one_process p.host None p.descriptors ∙ ap (λ b. cond b (Some (OfHost p.host)) None) e)
        ∙ of_host p.host processes
        ∙ sym (ap (λ b. cond (b && list_all (is_at p.host) processes) (Some (OfHost p.host)) (Some Apart)) (ap (λ b. not (holds id p) || b) (same p.host) ∙ or_true (not (holds id p))));
  }

  passed : (p : ProcessEntry) (processes : List ProcessEntry) → holds id p ≡ false → holders_of (p ∷ processes) id ≡ holders_of processes id
  passed p processes e = ap (λ found. fold (after_process id) found processes) (one_process p.host None p.descriptors ∙ ap (λ b. cond b (Some (OfHost p.host)) None) e)

  later : (p : ProcessEntry) (processes : List ProcessEntry) → holds id p ≡ false → HasFirst processes → HasFirst (p ∷ processes)
  later p processes e q = record {
    first = q.first;
    held = q.held;
    among = λ test h. q.among test (both (test p) (list_all test processes) h).1;
    some = ap (λ b. b || list_any (holds id) processes) e ∙ q.some;
    found =
        passed p processes e ∙ q.found
        ∙ sym (ap (λ b. cond (b && list_all (is_at q.first.host) processes) (Some (OfHost q.first.host)) (Some Apart)) (ap (λ b. not b || (p.host == q.first.host)) e));
  }

  after_one : (p : ProcessEntry) (processes : List ProcessEntry) (b : Bool) → holds id p ≡ b → HasNone processes ⊎ HasFirst processes → HasNone (p ∷ processes) ⊎ HasFirst (p ∷ processes)
  after_one p processes true e rest = inr (here p processes e)
  after_one p processes false e (inl none) = inl (passed p processes e ∙ none.0, ap (λ b. b || list_any (holds id) processes) e ∙ none.1)
  after_one p processes false e (inr q) = inr (later p processes e q)

  first_of : (processes : List ProcessEntry) → HasNone processes ⊎ HasFirst processes
  first_of [] = inl (refl, refl)
  first_of (p ∷ processes) = after_one p processes (holds id p) refl (first_of processes)

module _ (channels : List ChannelImage) (processes : List ProcessEntry) (d : DescriptionImage) where
  abbrev may_be : ℕ → Bool
  may_be = may_be_of channels processes d

  abbrev right : ProcessEntry → Bool
  right = is_rightly_held_by channels processes d

  abbrev may_hold_at : ℕ → Bool
  may_hold_at host = list_all (is_at d.id host) processes && is_owner processes host d.owner && is_object_of_host channels host d.object

  two_parts : (host : ℕ) → may_hold_at host ≡ (list_all (is_at d.id host) processes && may_be host)
  two_parts host = and_assoc (list_all (is_at d.id host) processes) (is_owner processes host d.owner) (is_object_of_host channels host d.object)

  allowed : (held : Bool) (host : ℕ) → list_all (is_at d.id host) processes ≡ true → may_be host ≡ true → (not held || may_hold_at host) ≡ true
  allowed held host one_host ok = ap (λ b. not held || b) (two_parts host ∙ (λ i. one_host i && ok i)) ∙ or_true (not held)

  one_right : (q : ProcessEntry) (host : ℕ) (held : Bool) → holds d.id q ≡ held → (not held || (q.host == host)) ≡ true
      → list_all (is_at d.id host) processes ≡ true → may_be host ≡ true → right q ≡ true
  one_right q host true e at one_host ok =
      subst (λ h. (not (holds d.id q) || may_hold_at h) ≡ true) (sym (equal q.host host at)) (allowed (holds d.id q) host one_host ok)
  one_right q host false e at one_host ok = ap (λ b. not b || may_hold channels processes d q) e

  all_right : (host : ℕ) (some : List ProcessEntry) → list_all (is_at d.id host) some ≡ true → list_all (is_at d.id host) processes ≡ true → may_be host ≡ true → list_all right some ≡ true
  all_right host [] at one_host ok = refl
  all_right host (q ∷ some) at one_host ok =
      let (first, rest) = both (is_at d.id host q) (list_all (is_at d.id host) some) at in
      λ i. one_right q host (holds d.id q) refl first one_host ok i && all_right host some rest one_host ok i

  not_all : (q : HasFirst d.id processes) (test : ProcessEntry → Bool) → test q.first ≡ false → list_all test processes ≡ false
  not_all q test fails =
      elim (list_all test processes) as (λ b. list_all test processes ≡ b → b ≡ false) [
        | true ↦ λ e. true_false (sym (q.among test e) ∙ fails)
        | false ↦ λ e. refl
      ] refl

  wrong : (q : HasFirst d.id processes) → (list_all (is_at d.id q.first.host) processes && may_be q.first.host) ≡ false → is_rightly_held channels processes d ≡ false
  wrong q fails =
      let refused : right q.first ≡ false = ap (λ b. not b || may_hold channels processes d q.first) q.held ∙ two_parts q.first.host ∙ fails in
      λ i. q.some i && not_all q right refused i

  by_first : (q : HasFirst d.id processes) (one_host ok : Bool) → list_all (is_at d.id q.first.host) processes ≡ one_host → may_be q.first.host ≡ ok
      → is_rightly_held channels processes d ≡ verdict channels processes d (cond one_host (Some (OfHost q.first.host)) (Some Apart))
  by_first q true true e t = (λ i. q.some i && all_right q.first.host processes e e t i) ∙ sym t
  by_first q true false e t = wrong q (λ i. e i && t i) ∙ sym t
  by_first q false ok e t = wrong q (ap (λ b. b && may_be q.first.host) e)

  judged : HasNone d.id processes ⊎ HasFirst d.id processes → is_rightly_held channels processes d ≡ verdict channels processes d (holders_of processes d.id)
  judged (inl none) = ap (λ b. b && list_all right processes) none.1 ∙ sym (ap (verdict channels processes d) none.0)
  judged (inr q) =
      by_first q (list_all (is_at d.id q.first.host) processes) (may_be q.first.host) refl refl ∙ sym (ap (verdict channels processes d) q.found)

  pub rightly_held : is_rightly_held channels processes d ≡ verdict channels processes d (holders_of processes d.id)
  rightly_held = judged (first_of d.id processes)
