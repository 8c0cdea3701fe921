-- Whether a description of a book passes a test, and all of a book's descriptions changed at once.
use Rattle.std.proofs.Common.{◌≡◌, ℕ, ◌<◌, Bool, refl, sym, ap, subst, ◌∙◌}
use Rattle.std.specs.Prelude.{Option, Some, None, is_some}
use Rattle.std.specs.Option.{option_map, unwrap_or}
use Rattle.std.specs.List.{list_any}
use Rattle.std.specs.FinMap as map
use Rattle.std.specs.FinMap.{FinMap}
use Rattle.fd_tables.specs.OfViews.Maps.{map_values}
use Rattle.fd_tables.proofs.OfViews.MapLaws.{true_false}
use Rattle.fd_tables.proofs.OfViews.MapValues.{get-map_values}
use Rattle.fd_tables.specs.OfSysAbi.declared.identity.RealPid.{RealPid}
use Rattle.fd_tables.specs.OfSysAbi.Orders.{desc_cmp}
use Rattle.fd_tables.proofs.OfSysAbi.OrderLaws.{desc_total, desc_exact}
use Rattle.fd_tables.specs.declared.description.Desc.{Desc}
use Rattle.fd_tables.specs.declared.open.Open.{Open}
use Rattle.fd_tables.specs.Parts.{disowned}
use Rattle.fd_tables.specs.Counts.{holders_of, disowned_open}
use Rattle.fd_book.specs.Counted.{desc_of, IsBook}
use Rattle.fd_book.proofs.BookLaws.{Slots, Opens, descs}
use Rattle.fd_tables.proofs.SlabLaws.{any-map_values}

pub any-descs : (test : Desc → Bool) (opens : Opens) (now : FinMap desc_cmp Desc) → descs opens ≡ now → list_any (λ o. test o.desc) (map.values opens) ≡ list_any test (map.values now)
any-descs test opens now seen = sym (any-map_values test desc_of opens) ∙ ap (λ m. list_any test (map.values m)) seen

same_holders : (p : RealPid) (before : Option Open) → holders_of (option_map (disowned_open p) before) ≡ holders_of before
unfolding disowned_open
same_holders p None = refl
same_holders p (Some o) = refl

held_before : (p : RealPid) (before : Option Open) (o : Open) → ((was : Open) → before ≡ Some was → 0 < was.holders) → option_map (disowned_open p) before ≡ Some o → 0 < o.holders
unfolding disowned_open
held_before p None o held is = true_false (sym (ap is_some is))
held_before p (Some was) o held is = subst (λ (x : Open). 0 < x.holders) (ap (λ x. unwrap_or x o) is) (held was refl)

pub disowned_book : (p : RealPid) (m : Slots) (opens after : Opens) (n : ℕ) → IsBook m opens n → after ≡ map_values (disowned_open p) opens → IsBook m after n
disowned_book p m opens after n good is = subst (λ (o : Opens). IsBook m o n) (sym is) (record {
  counted = record {
    counts = λ id. ap holders_of (get-map_values (disowned_open p) opens id) ∙ same_holders p (map.get opens id) ∙ good.counted.counts id;
    held = λ id o at. held_before p (map.get opens id) o (λ was there. good.counted.held id was there) (sym (get-map_values (disowned_open p) opens id) ∙ at);
  };
  in_all = good.in_all;
})

twice : (p : RealPid) (before : Option Open) → option_map desc_of (option_map (disowned_open p) before) ≡ option_map (disowned p) (option_map desc_of before)
unfolding disowned_open
twice p None = refl
twice p (Some o) = refl

pub disowned_descs : (p : RealPid) (opens after : Opens) (now : FinMap desc_cmp Desc) → after ≡ map_values (disowned_open p) opens → descs opens ≡ now → descs after ≡ map_values (disowned p) now
disowned_descs p opens after now is seen =
    ap descs is
    ∙ map.same_map desc_total desc_exact _ _ (λ id.
    get-map_values desc_of (map_values (disowned_open p) opens) id ∙ ap (option_map desc_of) (get-map_values (disowned_open p) opens id) ∙ twice p (map.get opens id)
    ∙ ap (option_map (disowned p)) (sym (get-map_values desc_of opens id)) ∙ sym (get-map_values (disowned p) (descs opens) id))
    ∙ ap (map_values (disowned p)) seen
