-- The bytes of each direction are where its notes say, and then where its list says.
--     found_list           of a list that is found holds what holds of all, and it is of that direction
--     finish_keeps         the bytes are the same when the notes become lists
use Rattle.std.proofs.Common.{◌≡◌, ℕ, Bool, true, false, List, [], ◌∷◌, refl, sym, ap, subst, ◌∙◌, inl, inr}
use Rattle.std.specs.Prelude.{Option, Some, None, All, is_some, if◌then◌else◌}
use Rattle.std.specs.Ordering.{eq_by_cmp}
use Rattle.std.proofs.lemmas.List.Elements.{All-head, All-tail}
use Rattle.std.proofs.lemmas.Option.{same_Some, none-some}
use Rattle.views.proofs.MapLaws.{true_false, same_key, key_tied}
use Rattle.sys_abi.specs.declared.identity.Dir.{Dir}
use Rattle.sys_abi.specs.Orders.{dir_cmp}
use Rattle.sys_abi.proofs.OrderLaws.{dir_total, dir_exact}
use Rattle.wire_net.specs.declared.cut_room.DirBytes.{DirBytes}
use Rattle.wire_net.specs.declared.cut_room.DirNotes.{DirNotes}
use Rattle.wire_channels.specs.Channels.{direction_at}
use Rattle.wire_net.specs.DrainedNets.{list_on, StandsIf, IsListOf, IsDrained, agents_of_lists}
use Rattle.wire_net.specs.Networks.{Network}
use Rattle.wire_channels.specs.Answers.{received_on}
use Rattle.wire_net.specs.Whereabouts.{stream_on, whereabouts}
use Rattle.wire_net.proofs.HeldLists.{own_of, bytes_drained}
use Rattle.drain_core.specs.Drains.{Notes, IsInStep, Fits, has_notes}
use Rattle.drain_core.specs.Holding.{agents_of}
use Rattle.drain_core.specs.Openings.{lists_of, IsGiven}
use Rattle.drain_core.proofs.AllDirections.{one_of}
use Rattle.drain_core.proofs.Bytes.{find_live, of_found, whereabouts_is, Live, found_live}
use Rattle.drain_core.proofs.DrainedLists.{drained_lists, noted_list}
use Rattle.drain_core.proofs.Going.{any_of}

found_list : (P : DirBytes → Type 0) (d : Dir) (lists : List DirBytes) (list : DirBytes) → All P lists → list_on d lists ≡ Some list → P list × (list.dir ≡ d)
found_list P d [] list all is = absurd (none-some list is)
found_list P d (first ∷ lists) list all is = choice (eq_by_cmp dir_cmp first.dir d) refl (found_list P d lists list (All-tail P first lists all)) is
  where
    choice : (b : Bool) → eq_by_cmp dir_cmp first.dir d ≡ b → (list_on d lists ≡ Some list → P list × (list.dir ≡ d)) → (if b then Some first else list_on d lists) ≡ Some list → P list × (list.dir ≡ d)
    choice true same rest is = subst (λ (l : DirBytes). P l × (l.dir ≡ d)) (same_Some first list is) (All-head P first lists all, same_key dir_total dir_exact first.dir d same)
    choice false other rest is = rest is

-- a direction that agents drain is noted, and is there
is_noted : (d : Dir) (notes : Notes) (x : DirNotes) → Live d notes x → has_notes d notes ≡ true
is_noted d notes x live =
    ap (has_notes d) live.among ∙ any_of (λ y. eq_by_cmp dir_cmp y.dir d) live.front live.back x (ap (λ (e : Dir). eq_by_cmp dir_cmp e d) live.dir ∙ key_tied dir_total dir_exact d)

is_there : (t : Network) (d : Dir) (notes : Notes) (x : DirNotes) → Live d notes x → IsInStep t.channels x → is_some (direction_at t.channels d) ≡ true
is_there t d notes x live (inl aside) = true_false (sym live.sender ∙ ap is_some aside.sender)
is_there t d notes x live (inr under) = ap is_some (ap (direction_at t.channels) (sym live.dir) ∙ under.found)

pub finish_keeps : (t : Network) (notes : Notes) (d : Dir) → Fits t.channels notes → IsGiven t notes → whereabouts t (agents_of_lists (lists_of t.channels notes)) d ≡ whereabouts t (agents_of notes) d
finish_keeps t notes d fits is = bytes_drained t lists d drained.apart ∙ found (list_on d lists) refl
  where
    lists : List DirBytes
    lists = lists_of t.channels notes

    stream : List ℕ
    stream = stream_on (direction_at t.channels d)

    drained : IsDrained t.channels lists
    drained = drained_lists t notes fits is

    unlisted : (o : Option DirNotes) → find_live d notes ≡ o → list_on d lists ≡ None → stream ≡ whereabouts t (agents_of notes) d
    unlisted None at none = sym (whereabouts_is t notes d ∙ ap (λ (o : Option DirNotes). of_found o stream) at)
    unlisted (Some x) at none =
        let live = found_live d notes x at in
        let there = is_there t d notes x live (one_of (IsInStep t.channels) live.front live.back x (subst (All (IsInStep t.channels)) live.among fits.in_step)) in
        true_false (sym (noted_list t.channels d notes there (is_noted d notes x live)) ∙ ap is_some none)

    listed : (list : DirBytes) (b : Bool) → StandsIf b list.bytes (stream_on (direction_at t.channels list.dir)) (received_on (direction_at t.channels list.dir)) → list.dir ≡ d
        → list.bytes ≡ whereabouts t (agents_of notes) list.dir → (if b then stream else list.bytes) ≡ whereabouts t (agents_of notes) d
    listed list true stands same bytes =
        ap (λ (e : Dir). stream_on (direction_at t.channels e)) (sym same) ∙ stands.0 ∙ stands.1 ∙ bytes ∙ ap (whereabouts t (agents_of notes)) same
    listed list false stands same bytes = bytes ∙ ap (whereabouts t (agents_of notes)) same

    found : (o : Option DirBytes) → list_on d lists ≡ o → own_of o stream ≡ whereabouts t (agents_of notes) d
    found None at = unlisted (find_live d notes) refl at
    found (Some list) at =
        let told = found_list (IsListOf t.channels) d lists list drained.lists_of at in
        let bytes = found_list (λ l. l.bytes ≡ whereabouts t (agents_of notes) l.dir) d lists list is.lists at in
        listed list list.in_place told.0.stands told.1 bytes.0
