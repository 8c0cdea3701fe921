-- What was found in a list that has one item of a name at most.
--     passes test found      it is there and passes the test
--     Finds here items found      the items that here tells are all that was found: some of them pass a test
--                                 just where that does
use Rattle.std.specs.Prelude.{◌≡◌, ◌&&◌, Bool, false, List, Option, Some, None}
use Rattle.std.specs.List.{list_any}

abbrev pub passes : {X : Type 0} → (X → Bool) → Option X → Bool
passes test None = false
passes test (Some x) = test x

abbrev pub Finds : {X : Type 0} → (X → Bool) → List X → Option X → Type 0
Finds {X} here items found = (test : X → Bool) → list_any (λ x. here x && test x) items ≡ passes test found
