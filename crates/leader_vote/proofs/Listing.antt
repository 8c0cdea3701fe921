-- The directions of all channels, listed one channel after the other.
--     AreAbove conns dirs above      those of all channels that do not come after the last one are listed,
--                                    each once
--     dirs_begun, dirs_on, dirs_fewer, dirs_done
use Rattle.std.proofs.Common.{◌≡◌, ◌≢◌, ◌<◌, ◌⊎◌, ℕ, zero, suc, Bool, true, false, ◌||◌, List, [], ◌∷◌, ◌++◌, inl, inr, refl, sym, ap, ◌∙◌, arith}
use Rattle.std.specs.Prelude.{Option, Some, None, IsSome, find, All}
use Rattle.std.specs.Ordering.{eq_by_cmp}
use Rattle.std.specs.FinMap as map
use Rattle.std.proofs.lemmas.List.Elements.{All-append, All-nil, All-cons, All-head, All-tail}
use Rattle.views.proofs.MapLaws.{true_false, key_tied}
use Rattle.sys_abi.specs.declared.identity.ConnId.{ConnId}
use Rattle.sys_abi.specs.declared.identity.Dir.{Dir}
use Rattle.sys_abi.specs.Orders.{dir_cmp}
use Rattle.sys_abi.proofs.OrderLaws.{conn_total, conn_exact, dir_total, dir_exact}
use Rattle.conn_table.specs.Conns.{is_above}
use Rattle.wire_net.specs.Noted.{Apart}
use Rattle.leader_vote.specs.Directions.{Conns, dir_of, is_listed, AreDirs}
use Rattle.leader_vote.proofs.KeptOwners.{value_of}
use Rattle.leader_vote.proofs.Walks.{count_of, next_is, walked, none_left, narrower, itself, fewer_left}

abbrev IsBehind : Option ConnId → Dir → Type 0
IsBehind above d = is_above above d.conn ≡ false

pub record AreAbove (conns : Conns) (dirs : List Dir) (above : Option ConnId) : Type 0 where
  pub apart : Apart dirs
  pub sides : All (λ d. d.side < 2) dirs
  pub behind : All (IsBehind above) dirs
  pub passed : (d : Dir) → d.side < 2 → IsSome (map.get conns d.conn) → is_above above d.conn ≡ false
      → is_listed d dirs ≡ true

pub dirs_begun : (conns : Conns) → AreAbove conns [] None
dirs_begun conns = record {
  apart = tt;
  sides = All-nil (λ d. d.side < 2);
  behind = All-nil (IsBehind None);
  passed = λ d side there is. true_false is;
}

-- what holds of each holds of each, said otherwise
all_then : {P Q : Dir → Type 0} → ((d : Dir) → P d → Q d) → (ds : List Dir) → All P ds → All Q ds
all_then {P} {Q} then [] all = All-nil Q
all_then {P} {Q} then (d ∷ ds) all =
    All-cons Q d ds (then d (All-head P d ds all)) (all_then then ds (All-tail P d ds all))

apart_more : (ds : List Dir) (d : Dir) → Apart ds → All (λ e. d ≢ e) ds → Apart (ds ++ d ∷ [])
apart_more [] d apart others = (All-nil (λ e. e ≢ d), tt)
apart_more (x ∷ ds) d apart others = (
  All-append (λ e. e ≢ x) ds (d ∷ []) apart.0
      (All-cons (λ e. e ≢ x) d [] (All-head (λ e. d ≢ e) x ds others) (All-nil (λ e. e ≢ x))),
  apart_more ds d apart.1 (All-tail (λ e. d ≢ e) x ds others),
)

listed_left : (d : Dir) (xs ys : List Dir) → is_listed d xs ≡ true → is_listed d (xs ++ ys) ≡ true
listed_left d [] ys is = true_false (sym is)
listed_left d (x ∷ xs) ys is =
    elim (eq_by_cmp dir_cmp x d) as (λ b. (b || is_listed d xs) ≡ true → (b || is_listed d (xs ++ ys)) ≡
    true) [
      | true ↦ λ is. refl
      | false ↦ λ is. listed_left d xs ys is
    ] is

listed_here : (d e : Dir) (xs ys : List Dir) → d ≡ e → is_listed d (xs ++ e ∷ ys) ≡ true
listed_here d e [] ys same =
    ap (λ b. b || is_listed d ys) (ap (λ x. eq_by_cmp dir_cmp x d) (sym same) ∙ key_tied dir_total
    dir_exact d)
listed_here d e (x ∷ xs) ys same =
    elim (eq_by_cmp dir_cmp x d) as (λ b. (b || is_listed d (xs ++ e ∷ ys)) ≡ true) [
      | true ↦ refl
      | false ↦ listed_here d e xs ys same
    ]

either_side : (n : ℕ) → n < 2 → (n ≡ 0) ⊎ (n ≡ 1)
either_side zero below = inl refl
either_side (suc zero) below = inr refl
either_side (suc (suc n)) below = absurd (omega (arith, below))

module _ (conns : Conns) (dirs : List Dir) (above : Option ConnId) (id : ConnId)
    (next : find (is_above above) (map.keys conns) ≡ Some id) (listed : AreAbove conns dirs above) where
  its : IsSome (map.get conns id) × (is_above above id ≡ true)
  its = next_is conn_total conn_exact conns is_above (λ k. refl) (λ a k. refl) above id next

  abbrev first : Dir
  first = dir_of id 0

  abbrev second : Dir
  second = dir_of id 1

  abbrev one_more : List Dir
  one_more = dirs ++ first ∷ []

  abbrev both_more : List Dir
  both_more = one_more ++ second ∷ []

  others : (d : Dir) → d.conn ≡ id → All (λ e. d ≢ e) dirs
  others d of_id =
      all_then {P = IsBehind above} {Q = λ e. d ≢ e}
      (λ e behind same. true_false (sym its.1 ∙ ap (is_above above) (sym of_id ∙ ap (λ (x : Dir). x.conn)
      same) ∙ behind))
      dirs listed.behind

  zero_one : first ≢ second
  zero_one same = let e : 0 ≡ 1 = ap (λ (x : Dir). x.side) same in absurd (omega (arith, e))

  later : (e : Dir) → IsBehind above e → IsBehind (Some id) e
  later e behind = by (is_above (Some id) e.conn) refl
    where
      by : (ahead : Bool) → is_above (Some id) e.conn ≡ ahead → is_above (Some id) e.conn ≡ false
      by false is = is
      by true is = true_false (sym (narrower conn_total conn_exact conns is_above (λ k. refl) (λ a k. refl)
          above id its.1 e.conn is) ∙ behind)

  this_behind : is_above (Some id) id ≡ false
  this_behind = itself conn_total conn_exact conns is_above (λ k. refl) (λ a k. refl) id

  all_both : (P : Dir → Type 0) → All P dirs → P first → P second → All P both_more
  all_both P all here there =
      All-append P one_more (second ∷ [])
      (All-append P dirs (first ∷ []) all (All-cons P first [] here (All-nil P)))
      (All-cons P second [] there (All-nil P))

  this_listed : (d : Dir) → d.side < 2 → d.conn ≡ id → is_listed d both_more ≡ true
  this_listed d side same = elim (either_side d.side side) [
    | inl zeroth ↦ listed_left d one_more (second ∷ [])
        (listed_here d first dirs [] (λ i. dir_of (same i) (zeroth i)))
    | inr oneth ↦ listed_here d second one_more [] (λ i. dir_of (same i) (oneth i))
  ]

  pub dirs_on : AreAbove conns both_more (Some id)
  dirs_on = record {
    apart = apart_more one_more second (apart_more dirs first listed.apart (others first refl))
        (All-append (λ e. second ≢ e) dirs (first ∷ []) (others second refl)
        (All-cons (λ e. second ≢ e) first [] (λ same. zero_one (sym same)) (All-nil (λ e. second ≢ e))));
    sides = all_both (λ d. d.side < 2) listed.sides (omega arith) (omega arith);
    behind = all_both (IsBehind (Some id)) (all_then {P = IsBehind above} {Q = IsBehind (Some id)} later
        dirs listed.behind)
        this_behind this_behind;
    passed = λ d side there is.
        let x = value_of (map.get conns d.conn) there in
        elim (walked conn_total conn_exact conns is_above (λ k. refl) (λ a k. refl) above id d.conn x.0
        next x.1 is) [
          | inl same ↦ this_listed d side same
          | inr before ↦ listed_left d one_more (second ∷ [])
              (listed_left d dirs (first ∷ []) (listed.passed d side there before))
        ];
  }

  pub dirs_fewer : count_of (is_above (Some id)) (map.keys conns) < count_of (is_above above) (map.keys conns)
  dirs_fewer = fewer_left conn_total conn_exact conns is_above (λ k. refl) (λ a k. refl) above id its.0 its.1

pub dirs_done : (conns : Conns) (dirs : List Dir) (above : Option ConnId)
    → find (is_above above) (map.keys conns) ≡ None → AreAbove conns dirs above → AreDirs conns dirs
dirs_done conns dirs above none listed = record {
  apart = listed.apart;
  sides = listed.sides;
  whole = λ d side there.
      let x = value_of (map.get conns d.conn) there in
      listed.passed d side there
      (none_left conn_total conn_exact conns is_above (λ k. refl) (λ a k. refl) above d.conn x.0 none x.1);
}
