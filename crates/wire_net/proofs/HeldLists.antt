-- Where the bytes are of a network that was drained.
--     own_of found stream      the bytes of a direction, by its list
--     bytes_drained            so says `whereabouts`
use Rattle.std.proofs.Common.{◌≡◌, ◌≢◌, ℕ, Bool, true, false, List, [], ◌∷◌, ◌++◌, refl, sym, ap, subst, ◌∙◌, inl, inr, append-nil}
use Rattle.std.specs.Prelude.{Option, Some, None, All, map as each, if◌then◌else◌}
use Rattle.std.specs.FinMap as map
use Rattle.std.specs.Ordering.{eq_by_cmp}
use Rattle.std.proofs.lemmas.List.Elements.{All-head, All-tail}
use Rattle.views.proofs.MapLaws.{same_or_other, key_tied, other_key, get_insert_same, get_insert_other}
use Rattle.sys_abi.specs.declared.identity.Dir.{Dir}
use Rattle.sys_abi.specs.Orders.{dir_cmp}
use Rattle.sys_abi.proofs.OrderLaws.{dir_total, dir_exact}
use Rattle.wire_net.specs.declared.cut_room.DirBytes.{DirBytes}
use Rattle.wire_channels.specs.Channels.{direction_at}
use Rattle.wire_net.specs.DrainedNets.{list_on, taken_off, agents_of_lists}
use Rattle.wire_net.specs.Networks.{Network}
use Rattle.wire_net.specs.Noted.{Apart}
use Rattle.wire_net.specs.Whereabouts.{Held, stream_on, reverse, placed, whereabouts}

-- what is held of a direction, by its list
abbrev held_by : Option DirBytes → Option Held
held_by None = None
held_by (Some list) = if list.in_place then None else Some (taken_off list.bytes)

abbrev pub own_of : Option DirBytes → List ℕ → List ℕ
own_of None stream = stream
own_of (Some list) stream = if list.in_place then stream else list.bytes

none_listed : (d : Dir) (lists : List DirBytes) → All (λ e. e ≢ d) (each (λ list. list.dir) lists) → list_on d lists ≡ None
none_listed d [] apart = refl
none_listed d (list ∷ lists) apart =
    ap (λ (b : Bool). if b then Some list else list_on d lists) (other_key dir_total dir_exact list.dir d (All-head (λ e. e ≢ d) list.dir (each (λ list. list.dir) lists) apart))
    ∙ none_listed d lists (All-tail (λ e. e ≢ d) list.dir (each (λ list. list.dir) lists) apart)

held_at : (lists : List DirBytes) (d : Dir) → Apart (each (λ list. list.dir) lists) → map.get (agents_of_lists lists) d ≡ held_by (list_on d lists)
held_at [] d apart = map.get-empty dir_cmp d
held_at (list ∷ lists) d apart = elim (same_or_other dir_total dir_exact list.dir d) [
  | inl same ↦
      here list.in_place same (held_at lists d apart.1 ∙ ap held_by (none_listed d lists (first same)))
      ∙ sym (ap (λ (b : Bool). held_by (if b then Some list else list_on d lists)) (ap (λ (e : Dir). eq_by_cmp dir_cmp e d) same ∙ key_tied dir_total dir_exact d))
  | inr differ ↦
      passed list.in_place (λ same. differ (sym same)) ∙ held_at lists d apart.1
      ∙ sym (ap (λ (b : Bool). held_by (if b then Some list else list_on d lists)) (other_key dir_total dir_exact list.dir d differ))
]
  where
    first : list.dir ≡ d → All (λ e. e ≢ d) (each (λ l. l.dir) lists)
    first same = subst (λ (f : Dir). All (λ e. e ≢ f) (each (λ l. l.dir) lists)) same apart.0

    here : (b : Bool) → list.dir ≡ d → map.get (agents_of_lists lists) d ≡ None
        → map.get (if b then agents_of_lists lists else map.insert (agents_of_lists lists) list.dir (taken_off list.bytes)) d ≡ (if b then None else Some (taken_off list.bytes))
    here true same none = none
    here false same none =
        ap (map.get (map.insert (agents_of_lists lists) list.dir (taken_off list.bytes))) (sym same) ∙ get_insert_same dir_total dir_exact (agents_of_lists lists) list.dir (taken_off list.bytes)

    passed : (b : Bool) → d ≢ list.dir → map.get (if b then agents_of_lists lists else map.insert (agents_of_lists lists) list.dir (taken_off list.bytes)) d ≡ map.get (agents_of_lists lists) d
    passed true differ = refl
    passed false differ = get_insert_other dir_total dir_exact (agents_of_lists lists) list.dir (taken_off list.bytes) d differ

pub bytes_drained : (t : Network) (lists : List DirBytes) (d : Dir) → Apart (each (λ list. list.dir) lists) → whereabouts t (agents_of_lists lists) d ≡ own_of (list_on d lists) (stream_on (direction_at t.channels d))
bytes_drained t lists d apart = ap (placed own other) (held_at lists d apart) ∙ found (list_on d lists)
  where
    own : List ℕ
    own = stream_on (direction_at t.channels d)

    other : List ℕ
    other = stream_on (direction_at t.channels (reverse d))

    held : (list : DirBytes) (b : Bool) → placed own other (if b then None else Some (taken_off list.bytes)) ≡ (if b then own else list.bytes)
    held list true = refl
    held list false =
        append-nil (((list.bytes ++ []) ++ []) ++ []) ∙ append-nil ((list.bytes ++ []) ++ []) ∙ append-nil (list.bytes ++ []) ∙ append-nil list.bytes

    found : (o : Option DirBytes) → placed own other (held_by o) ≡ own_of o own
    found None = refl
    found (Some list) = held list list.in_place
