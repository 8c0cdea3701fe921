use Rattle.std.proofs.Common.{◌≡◌, Bool, List, [], ◌∷◌, map, take, refl, sym, ap, ◌∙◌, ◌||◌}
use Rattle.std.specs.List.{list_any}
use Rattle.std.specs.Str.{bytes_eq}
use Rattle.option_words.proofs.files.Files.contains.Goals as goal

any_of_map : {A B : Type 0} (p : B → Bool) (f : A → B) (xs : List A) → list_any p (map f xs) ≡ list_any (λ x. p (f x)) xs
any_of_map p f [] = refl
any_of_map p f (x ∷ xs) = ap (λ (b : Bool). p (f x) || b) (any_of_map p f xs)

pub returns : goal.returns
returns c =
    c.is_among.ensures
    ∙ (sym (any_of_map (bytes_eq c.args.name.now) (λ name. name.now) (take c.self.inside.count c.self.inside.names))
    ∙ ap (list_any (bytes_eq c.args.name.now)) c.self.view_is)
