-- The notes on all directions begin one after the other, and the lists lose their bytes.
--     begun_note                  the notes on one direction
--     others_kept                 the lists on other directions are as they were
--     as_first, few_now           the list and the agent of the next direction are as they were at first
--     one_begun, others_later     one direction further
--     all_begun                   behind the last one
--     dirs_named                  the directions of notes, as a room names them
use Rattle.std.proofs.Common.{◌≡◌, ◌≢◌, ℕ, ◌+◌, ◌<◌, ◌≤◌, zero, suc, List, [], ◌∷◌, ◌++◌, take, drop, length, get_or, set, refl, sym, ap, ap₂, subst, ◌∙◌, arith, append-nil}
use Rattle.std.specs.Prelude.{Option, Some, None, All, IfSome, slice_get, map as each, if◌then◌else◌}
use Rattle.std.proofs.lemmas.List.{take_all, drop_all}
use Rattle.std.proofs.lemmas.List.Elements.{All-nil, All-cons, All-head, All-tail}
use Rattle.std.proofs.lemmas.Option.{slice_get-get_or}
use Rattle.sys_abi.specs.declared.identity.Dir.{Dir}
use Rattle.sys_abi.specs.declared.identity.RealPid.{RealPid}
use Rattle.wire_net.specs.declared.agents.AgentEnd.{AgentEnd}
use Rattle.wire_net.specs.declared.cut_room.DirBytes.{DirBytes}
use Rattle.wire_net.specs.declared.cut_room.DirNotes.{DirNotes}
use Rattle.wire_net.specs.CutRooms.{Named, name_of, names_of}
use Rattle.wire_net.specs.DrainedNets.{list_on}
use Rattle.wire_net.specs.Ends.{agent_of}
use Rattle.wire_net.proofs.EachItem.{place, item_here, item_changed}
use Rattle.wire_net.proofs.Items.{one_of}
use Rattle.wire_net.proofs.ListsOn.{one_listed, list_dir, list_beside}
use Rattle.refill_core.specs.Beginnings.{cleared, with_list, begun_on, begun}
use Rattle.refill_core.specs.Refills.{Notes, Apart, dirs_of}
use Rattle.refill_core.proofs.Bytes.{front_apart}

abbrev pub begun_note : List DirBytes → List AgentEnd → DirNotes → DirNotes
begun_note lists ends x = begun_on ends (name_of x) (list_on x.dir lists)

-- a list on another direction stands behind a place as before, whatever place that is
beside_left : (d : Dir) (lists : List DirBytes) (k i : ℕ) (z v : DirBytes) → i < length lists
    → (get_or lists i z).dir ≢ d → v.dir ≢ d → list_on d (drop k (set lists i v)) ≡ list_on d (drop k lists)
beside_left d lists zero i z v below old new = list_beside d lists i z v below old new
beside_left d [] (suc k) i z v below old new = absurd (omega (arith, below))
beside_left d (x ∷ lists) (suc k) zero z v below old new = refl
beside_left d (x ∷ lists) (suc k) (suc i) z v below old new =
    beside_left d lists k i z v (omega (arith, below)) old new

pub others_kept : (lists : List DirBytes) (k i : ℕ) (z v : DirBytes) (d e : Dir) → i < length lists
    → z ≡ get_or lists i z → slice_get lists i ≡ list_on e lists → v.dir ≡ z.dir → d ≢ e
    → list_on d (drop k (set lists i v)) ≡ list_on d (drop k lists)
others_kept lists k i z v d e below is found kept differ =
    let at : list_on e lists ≡ Some z =
    sym found ∙ slice_get-get_or lists i z below ∙ ap (λ (l : DirBytes). Some l) (sym is)
    in
    let same : z.dir ≡ e = list_dir e lists z at in
    beside_left d lists k i z v below
    (λ here. differ (sym here ∙ ap (λ (l : DirBytes). l.dir) (sym is) ∙ same))
    (λ here. differ (sym here ∙ kept ∙ same))

-- ---- one direction

abbrev Before : Notes → ℕ → Dir → Type 0
Before old i e = All (λ x. x.dir ≢ e) (take i old)

not_before : (old : Notes) (i : ℕ) (d : DirNotes) → i < length old → Apart (dirs_of old) → Before old i (get_or old i d).dir
not_before old i d below apart =
    let at = place old i d below in
    subst (All (λ x. x.dir ≢ (get_or old i d).dir)) (sym at.before) (front_apart at.front at.back (get_or old i d) (subst (λ (l : Notes). Apart (dirs_of l)) at.whole apart))

front_of : (P : DirNotes → Type 0) (front rest : Notes) → All P (front ++ rest) → All P front
front_of P [] rest all = All-nil P
front_of P (y ∷ front) rest all = All-cons P y front (All-head P y (front ++ rest) all) (front_of P front rest (All-tail P y (front ++ rest) all))

module _ {X : Type 0} where
  -- what is told of directions that are still to come is as it was
  abbrev AsBefore : Notes → ℕ → (Dir → X) → (Dir → X) → Type 0
  AsBefore old i now first = (e : Dir) → Before old i e → now e ≡ first e

  pub as_first : (f : DirNotes → DirNotes) (items old : Notes) (i : ℕ) (d : DirNotes) (now first : Dir → X)
      → i < length old → items ≡ each f (take i old) ++ drop i old → Apart (dirs_of old)
      → AsBefore old i now first → now (get_or items i d).dir ≡ first (get_or items i d).dir
  as_first f items old i d now first below seen apart kept =
      kept (get_or items i d).dir
      (subst (λ (x : DirNotes). Before old i x.dir) (sym (item_here f items old i d below seen))
      (not_before old i d below apart))

  pub others_later : (f : DirNotes → DirNotes) (items old : Notes) (i : ℕ) (d : DirNotes)
      (now next first : Dir → X)
      → i < length old → items ≡ each f (take i old) ++ drop i old → AsBefore old i now first
      → ((e : Dir) → e ≢ (get_or items i d).dir → next e ≡ now e) → AsBefore old (i + 1) next first
  others_later f items old i d now next first below seen kept others e apart =
      let at = place old i d below in
      let x = get_or old i d in
      let all = subst (All (λ y. y.dir ≢ e)) at.so_far apart in
      let before =
      subst (All (λ y. y.dir ≢ e)) (sym at.before) (front_of (λ y. y.dir ≢ e) at.front (x ∷ []) all)
      in
      let here : x.dir ≢ e = one_of (λ y. y.dir ≢ e) at.front [] x all in
      let is = item_here f items old i d below seen in
      others e (λ same. here (ap (λ (y : DirNotes). y.dir) (sym is) ∙ sym same)) ∙ kept e before

few_on : (P : DirBytes → Type 0) (d : Dir) (lists : List DirBytes) → All P lists → IfSome (list_on d lists) P
few_on P d lists all = choice (list_on d lists) refl
  where
    choice : (o : Option DirBytes) → list_on d lists ≡ o → IfSome o P
    choice None at = tt
    choice (Some list) at = one_listed P d lists list at all

pub few_now : (P : DirBytes → Type 0) (d : Dir) (lists first : List DirBytes)
    → list_on d lists ≡ list_on d first → All P first → IfSome (list_on d lists) P
few_now P d lists first same all =
    subst (λ (o : Option DirBytes). IfSome o P) (sym same) (few_on P d first all)

same_agent : (rest ends : List AgentEnd) (named : Named) (o : Option DirBytes)
    → agent_of rest named.0.conn named.0.side ≡ agent_of ends named.0.conn named.0.side
    → begun_on rest named o ≡ begun_on ends named o
same_agent rest ends named None same = refl
same_agent rest ends named (Some list) same =
    let given = with_list ends list.bytes (cleared named) in
    ap (λ (p : Option RealPid). if list.in_place then cleared named else record given { sender = p }) same

pub one_begun : (items old : Notes) (i : ℕ) (d v : DirNotes) (lists first : List DirBytes)
    (rest ends : List AgentEnd)
    → i < length old → items ≡ each (begun_note first ends) (take i old) ++ drop i old
    → (let e = (get_or items i d).dir in list_on e lists ≡ list_on e first)
    → (let e = (get_or items i d).dir in agent_of rest e.conn e.side ≡ agent_of ends e.conn e.side)
    → v ≡ begun_note lists rest (get_or items i d)
    → set items i v ≡ each (begun_note first ends) (take (i + 1) old) ++ drop (i + 1) old
one_begun items old i d v lists first rest ends below seen listed led is =
    let x = get_or items i d in
    item_changed (begun_note first ends) items old i d v below seen
    (is ∙ ap (λ (o : Option DirBytes). begun_on rest (name_of x) o) listed
    ∙ same_agent rest ends (name_of x) (list_on x.dir first) led)

-- ---- all of them

names_begun : (lists : List DirBytes) (ends : List AgentEnd) (notes : Notes) → each (begun_note lists ends) notes ≡ begun lists ends (names_of notes)
names_begun lists ends [] = refl
names_begun lists ends (x ∷ notes) = ap (λ (l : Notes). begun_note lists ends x ∷ l) (names_begun lists ends notes)

pub all_begun : (lists : List DirBytes) (ends : List AgentEnd) (items old : Notes) (i : ℕ) → length old ≤ i → items ≡ each (begun_note lists ends) (take i old) ++ drop i old → items ≡ begun lists ends (names_of old)
all_begun lists ends items old i past seen =
    seen ∙ ap₂ (λ (a b : Notes). each (begun_note lists ends) a ++ b) (take_all i old past) (drop_all i old past)
    ∙ append-nil (each (begun_note lists ends) old) ∙ names_begun lists ends old

pub dirs_named : (notes : Notes) (lengths : List Named) → names_of notes ≡ lengths → dirs_of notes ≡ each (λ named. named.0) lengths
dirs_named notes lengths is = go notes ∙ ap (each (λ (named : Named). named.0)) is
  where
    go : (l : Notes) → dirs_of l ≡ each (λ named. named.0) (names_of l)
    go [] = refl
    go (x ∷ l) = ap (λ (ds : List Dir). x.dir ∷ ds) (go l)
