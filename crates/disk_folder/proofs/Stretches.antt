-- Stretches of calls, one after another.
--     joins, weakens          two stretches, and a weaker P
--     told_then, some_of      where a folder tells what reads give, and where it told it before a change
use Rattle.std.proofs.Common.{◌≡◌, ◌⊎◌, inl, inr, refl, sym, ◌∙◌, arith}
use Rattle.std.specs.Prelude.{Option, Some, None, option_map, IfSome}
use Rattle.std.proofs.lemmas.Option.{same_Some, none-some}
use Rattle.disk_folder.specs.Files.{FolderFiles}
use Rattle.disk_folder.specs.Moments.{LeavesOnly}
use Rattle.disk_folder.specs.SeenFolder.{SeenFolder}

pub either : {A B C : Type 0} → A ⊎ B → (A → C) → (B → C) → C
either (inl a) f g = f a
either (inr b) f g = g b

-- where the folder tells what reads give
pub told_then : {A : Type 0} (o : Option A) {P : A → Type 0} → ((x : A) → o ≡ Some x → P x) → IfSome o P
told_then None each = tt
told_then (Some x) each = each x refl

pub joins : (a b c : SeenFolder) (P : FolderFiles → Type 0) → LeavesOnly a b P → LeavesOnly b c P → LeavesOnly a c P
joins a b c P first second = record {
  later = let l = first.later in let m = second.later in omega arith;
  each = λ image since. either (second.before a.moment image first.later since) (first.each image) (λ p. p);
  before = λ t image le since. either (second.before t image (let l = first.later in omega arith) since) (first.before t image le) inr;
}

pub weakens : (a b : SeenFolder) (P Q : FolderFiles → Type 0) → LeavesOnly a b P → ((image : FolderFiles) → P image → Q image) → LeavesOnly a b Q
weakens a b P Q stretch weaker = record {
  later = stretch.later;
  each = λ image since. weaker image (stretch.each image since);
  before = λ t image le since. either (stretch.before t image le since) inl (λ p. inr (weaker image p));
}

-- where it tells what it does after a change, it told it before
pub some_of : {A B : Type 0} {new : Option B} (old : Option A) (f : A → B) (y : B) → new ≡ option_map f old → new ≡ Some y → (x : A) × (old ≡ Some x) × (f x ≡ y)
some_of None f y change is = absurd (none-some y (sym change ∙ is))
some_of (Some x) f y change is = (x, refl, same_Some _ _ (sym change ∙ is))
