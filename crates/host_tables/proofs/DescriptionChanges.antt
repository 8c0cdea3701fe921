-- Descriptions put and taken away through the pairs.
--     SameDescriptions-put      one is put, where what others are told by goes on telling the same
--     description_put           one is put, and nothing else changes
--     SameDescriptions-remove, SameInboxes-remove      one goes
--     same_open                 either side tells whether a file is open
use Rattle.std.proofs.Common.{◌≡◌, ◌≢◌, ◌⊎◌, ℕ, Option, Some, None, inl, inr, refl, sym, ap, ◌∙◌, subst}
use Rattle.std.specs.Prelude.{option_map, option_and_then}
use Rattle.std.specs.List.{list_any}
use Rattle.std.specs.FinMap as map
use Rattle.std.proofs.lemmas.Option.{same_Some, none-some}
use Rattle.views.specs.Seen.{Agree, LeadBack, SeenBy}
use Rattle.views.proofs.MapLaws.{same_or_other, get_insert_same, get_insert_other, get_remove_same, get_remove_other}
use Rattle.views.proofs.Seen.{any_seen}
use Rattle.sys_abi.specs.declared.identity.DescId.{DescId}
use Rattle.sys_abi.specs.Orders.{desc_cmp}
use Rattle.sys_abi.proofs.OrderLaws.{desc_total, desc_exact}
use Rattle.conn_table.specs.Pairs.{Pairs, end_of}
use Rattle.fd_tables.specs.declared.description.Desc.{Desc}
use Rattle.fd_tables.specs.declared.description.Object as real_object
use Rattle.fd_tables.specs.declared.description.Object.TheVariants as object
use Rattle.fd_tables.specs.Parts as parts
use Rattle.plain_machine.specs.OfPlainTables.declared.description.Description.{Description}
use Rattle.plain_machine.specs.OfPlainTables.Objects.{is_file, has_open}
use Rattle.plain_machine.specs.OfPlainTables.Tables.{Descriptions, Inboxes}
use Rattle.plain_machine.specs.declared.kernel.PlainKernel.{PlainKernel}
use Rattle.plain_machine.specs.Kernel.{with_description}
use Rattle.host_tables.specs.declared.kernel.Kernel.{Kernel}
use Rattle.host_tables.specs.Numbers.{Virts, IsKnown}
use Rattle.host_tables.specs.Datagrams.{RealDescriptions, inbox_of, SameInboxes}
use Rattle.host_tables.specs.Descriptions.{Names, Addresses, Stage, owner_of, seen_object, seen_desc, IsTold, SameDescriptions}
use Rattle.host_tables.specs.Stands.{Given, Stands}
use Rattle.host_tables.proofs.Frames.{book_kept}

-- what a description is told by still tells the same
pub record IsStillTold (names names' : Names) (addresses' : Addresses) (pairs pairs' : Pairs) (id : DescId)
    (o : real_object.Object) : Type 0 where
  pub same : seen_object names' pairs' id o ≡ seen_object names pairs id o
  pub told : IsTold names' addresses' pairs' id o

module _ (virts : Virts) (names names' : Names) (addresses addresses' : Addresses) (pairs pairs' : Pairs)
    (held : Option Stage) (virt : Descriptions) (real : RealDescriptions)
    (same : SameDescriptions virts names addresses pairs held virt real) where
  module _ (id : DescId) (d : Desc)
      (others : (q : DescId) (e : Desc) → q ≢ id → map.get real q ≡ Some e
      → IsStillTold names names' addresses' pairs pairs' q e.object)
      (known : IsKnown virts (owner_of held id d)) (told : IsTold names' addresses' pairs' id d.object) where
    abbrev virt' : Descriptions
    virt' = map.insert virt id (seen_desc virts names' pairs' held id d)

    abbrev real' : RealDescriptions
    real' = map.insert real id d

    here_virt : map.get virt' id ≡ Some (seen_desc virts names' pairs' held id d)
    here_virt = get_insert_same desc_total desc_exact virt id (seen_desc virts names' pairs' held id d)

    here_real : map.get real' id ≡ Some d
    here_real = get_insert_same desc_total desc_exact real id d

    beside_real : (q : DescId) → q ≢ id → map.get real' q ≡ map.get real q
    beside_real q differ = get_insert_other desc_total desc_exact real id d q differ

    -- of another one
    seen_still : (q : DescId) (o : Option Desc) → q ≢ id → map.get real q ≡ o
        → option_map (seen_desc virts names pairs held q) o ≡ option_map (seen_desc virts names' pairs' held q) o
    seen_still q None differ is = refl
    seen_still q (Some e) differ is =
        let still = sym (others q e differ is).same in
        ap (λ x. Some (record (seen_desc virts names pairs held q e) { object = x })) still

    each_then : (q : DescId)
        → map.get virt' q ≡ option_map (seen_desc virts names' pairs' held q) (map.get real' q)
    each_then q = elim (same_or_other desc_total desc_exact q id) [
      | inl is ↦
          ap (map.get virt') is ∙ here_virt
          ∙ sym ((λ i. option_map (seen_desc virts names' pairs' held (is i)) (map.get real' (is i)))
          ∙ ap (option_map (seen_desc virts names' pairs' held id)) here_real)
      | inr differ ↦
          get_insert_other desc_total desc_exact virt id (seen_desc virts names' pairs' held id d) q differ
          ∙ same.each q ∙ seen_still q (map.get real q) differ refl
          ∙ sym (ap (option_map (seen_desc virts names' pairs' held q)) (beside_real q differ))
    ]

    was : (q : DescId) (e : Desc) → map.get real' q ≡ Some e
        → ((q ≡ id) × (d ≡ e)) ⊎ ((q ≢ id) × (map.get real q ≡ Some e))
    was q e is = elim (same_or_other desc_total desc_exact q id) [
      | inl here ↦ inl (here, same_Some d e (sym here_real ∙ ap (map.get real') (sym here) ∙ is))
      | inr differ ↦ inr (differ, sym (beside_real q differ) ∙ is)
    ]

    pub SameDescriptions-put : SameDescriptions virts names' addresses' pairs' held virt' real'
    SameDescriptions-put = record {
      each = each_then;
      owners = λ q e is. elim (was q e is) [
        | inl here ↦ subst (λ (x : DescId × Desc). IsKnown virts (owner_of held x.0 x.1))
            (λ i. (sym here.0 i, here.1 i)) known
        | inr before ↦ same.owners q e before.1
      ];
      objects = λ q e is. elim (was q e is) [
        | inl here ↦ subst (λ (x : DescId × Desc). IsTold names' addresses' pairs' x.0 x.1.object)
            (λ i. (sym here.0 i, here.1 i)) told
        | inr before ↦ (others q e before.0 before.1).told
      ];
    }

-- names and addresses as they were: each is still told
pub still_told : (virts : Virts) (names : Names) (addresses : Addresses) (pairs : Pairs) (held : Option Stage)
    (virt : Descriptions) (real : RealDescriptions) → SameDescriptions virts names addresses pairs held virt real
    → (q : DescId) (e : Desc) → map.get real q ≡ Some e
    → IsStillTold names names addresses pairs pairs q e.object
still_told virts names addresses pairs held virt real same q e is =
    record { same = refl; told = same.objects q e is }

-- one goes
module _ (virts : Virts) (names : Names) (addresses : Addresses) (pairs : Pairs) (held : Option Stage)
    (virt : Descriptions) (real : RealDescriptions)
    (same : SameDescriptions virts names addresses pairs held virt real) where
  pub SameDescriptions-remove : (id : DescId)
      → SameDescriptions virts names addresses pairs held (map.remove virt id) (map.remove real id)
  SameDescriptions-remove id = record {
    each = λ q. elim (same_or_other desc_total desc_exact q id) [
      | inl is ↦
          ap (map.get (map.remove virt id)) is ∙ get_remove_same desc_total desc_exact virt id
          ∙ sym (ap (option_map (seen_desc virts names pairs held q))
          (ap (map.get (map.remove real id)) is ∙ get_remove_same desc_total desc_exact real id))
      | inr differ ↦
          get_remove_other desc_total desc_exact virt id q differ ∙ same.each q
          ∙ sym (ap (option_map (seen_desc virts names pairs held q))
          (get_remove_other desc_total desc_exact real id q differ))
    ];
    owners = λ q d is. same.owners q d (was q d is);
    objects = λ q d is. same.objects q d (was q d is);
  }
    where
      was : (q : DescId) (d : Desc) → map.get (map.remove real id) q ≡ Some d → map.get real q ≡ Some d
      was q d is = elim (same_or_other desc_total desc_exact q id) [
        | inl here ↦ absurd (none-some d (sym (get_remove_same desc_total desc_exact real id)
            ∙ ap (map.get (map.remove real id)) (sym here) ∙ is))
        | inr differ ↦ sym (get_remove_other desc_total desc_exact real id q differ) ∙ is
      ]

  -- as maps under equal keys
  itself : LeadBack {K = DescId} {L = DescId} Some Some
  itself = record { back = λ k l e. ap Some (sym (same_Some k l e)); there = λ k l e. ap Some (sym (same_Some l k e)) }

  abbrev IsSeen : DescId → DescId → Description → Desc → Type 0
  IsSeen id l x d = x ≡ seen_desc virts names pairs held id d

  option_agree : (id : DescId) (o : Option Description) (q : Option Desc)
      → o ≡ option_map (seen_desc virts names pairs held id) q → Agree (IsSeen id id) o q
  option_agree id None None e = tt
  option_agree id None (Some d) e = none-some _ e
  option_agree id (Some x) None e = none-some x (sym e)
  option_agree id (Some x) (Some d) e = same_Some x _ e

  as_seen : SeenBy {R = desc_cmp} {S = desc_cmp} Some Some IsSeen virt real
  as_seen = record {
    at = λ k l e. subst (λ q. Agree (IsSeen k k) (map.get virt k) (map.get real q)) (same_Some k l e)
        (option_agree k (map.get virt k) (map.get real k) (same.each k));
    virt_alone = λ k e. absurd (none-some k (sym e));
    real_alone = λ l e. absurd (none-some l (sym e));
  }

  same_file : (number : ℕ) (id : DescId) (o : real_object.Object)
      → is_file number (seen_object names pairs id o) ≡ parts.is_file number o
  same_file number id object.Console = refl
  same_file number id (object.File n offset) = refl
  same_file number id (object.Stream conn side) = refl
  same_file number id object.Socket = refl
  same_file number id (object.Listener at) = refl
  same_file number id (object.Datagram queue side) = refl
  same_file number id (object.Counter value) = refl

  pub same_open : (number : ℕ)
      → has_open virt number ≡ list_any (parts.is_of_file number) (map.values real)
  same_open number =
      any_seen desc_total desc_exact desc_total desc_exact Some Some itself IsSeen virt real as_seen
      (λ (x : Description). is_file number x.object) (parts.is_of_file number)
      (λ k l x d is. ap (λ (z : Description). is_file number z.object) is ∙ same_file number k d.object)

-- an object without messages
abbrev pub HasNoInbox : real_object.Object → Type 0
HasNoInbox o = (queue side : ℕ) → o ≢ object.Datagram queue side

-- what an object's inbox is, where it has none
pub no_inbox : (pairs : Pairs) (o : real_object.Object) → HasNoInbox o → inbox_of pairs o ≡ None
no_inbox pairs object.Console no_end = refl
no_inbox pairs (object.File n offset) no_end = refl
no_inbox pairs (object.Stream conn side) no_end = refl
no_inbox pairs object.Socket no_end = refl
no_inbox pairs (object.Listener at) no_end = refl
no_inbox pairs (object.Datagram queue side) no_end = absurd (no_end queue side refl)
no_inbox pairs (object.Counter value) no_end = refl

module _ (pairs : Pairs) (inboxes : Inboxes) (real : RealDescriptions) (same : SameInboxes pairs inboxes real)
    (id : DescId) where
  -- the end of another description
  pub SameInboxes-remove : (d : Desc) → map.get real id ≡ Some d → HasNoInbox d.object
      → SameInboxes pairs inboxes (map.remove real id)
  SameInboxes-remove d is no_end = record {
    each = λ q. elim (same_or_other desc_total desc_exact q id) [
      | inl here ↦
          same.each q ∙ ap (λ x. option_and_then (λ (e : Desc). inbox_of pairs e.object) (map.get real x)) here
          ∙ ap (option_and_then (λ (e : Desc). inbox_of pairs e.object)) is ∙ no_inbox pairs d.object no_end
          ∙ sym (ap (option_and_then (λ (e : Desc). inbox_of pairs e.object))
          (ap (map.get (map.remove real id)) here ∙ get_remove_same desc_total desc_exact real id))
      | inr differ ↦
          same.each q ∙ sym (ap (option_and_then (λ (e : Desc). inbox_of pairs e.object))
          (get_remove_other desc_total desc_exact real id q differ))
    ];
    described = λ queue side pair at h opened.
        let named = same.described queue side pair at h opened in
        let apart : (end_of side pair).desc ≢ id = λ e. no_end queue side (same_Some _ _
        (sym (ap (λ x. option_map (λ (d : Desc). d.object) (map.get real x)) e
        ∙ ap (option_map (λ (d : Desc). d.object)) is) ∙ named)) in
        ap (option_map (λ (d : Desc). d.object))
        (get_remove_other desc_total desc_exact real id (end_of side pair).desc apart) ∙ named;
    opened = same.opened;
  }

  -- another description in its place, or a new one, with the same inbox or none
  module _ (d : Desc)
      (inbox : option_and_then (λ (e : Desc). inbox_of pairs e.object) (map.get real id) ≡ inbox_of pairs d.object)
      (named : (queue side : ℕ) → option_map (λ (e : Desc). e.object) (map.get real id)
      ≡ Some (object.Datagram queue side) → d.object ≡ object.Datagram queue side) where
    pub SameInboxes-put : SameInboxes pairs inboxes (map.insert real id d)
    SameInboxes-put = record {
      each = λ q. elim (same_or_other desc_total desc_exact q id) [
        | inl here ↦
            same.each q ∙ ap (λ x. option_and_then (λ (e : Desc). inbox_of pairs e.object) (map.get real x)) here
            ∙ inbox
            ∙ sym (ap (option_and_then (λ (e : Desc). inbox_of pairs e.object))
            (ap (map.get (map.insert real id d)) here ∙ get_insert_same desc_total desc_exact real id d))
        | inr differ ↦
            same.each q ∙ sym (ap (option_and_then (λ (e : Desc). inbox_of pairs e.object))
            (get_insert_other desc_total desc_exact real id d q differ))
      ];
      described = λ queue side pair at h opened.
          let was = same.described queue side pair at h opened in
          elim (same_or_other desc_total desc_exact (end_of side pair).desc id) [
            | inl here ↦
                ap (λ x. option_map (λ (e : Desc). e.object) (map.get (map.insert real id d) x)) here
                ∙ ap (option_map (λ (e : Desc). e.object)) (get_insert_same desc_total desc_exact real id d)
                ∙ ap Some (named queue side
                (sym (ap (λ x. option_map (λ (e : Desc). e.object) (map.get real x)) here) ∙ was))
            | inr differ ↦
                ap (option_map (λ (e : Desc). e.object))
                (get_insert_other desc_total desc_exact real id d (end_of side pair).desc differ) ∙ was
          ];
      opened = same.opened;
    }

-- a description is put, and nothing else changes
module _ (g : Given) (held : Option Stage) (real : Kernel) (k : PlainKernel) (st : Stands g held real k)
    (id : DescId) (d : Desc) (known : IsKnown g.virts (owner_of held id d))
    (told : IsTold g.names g.addresses real.datagrams id d.object) where
  pub description_put :
      option_and_then (λ (e : Desc). inbox_of real.datagrams e.object) (map.get real.book.descriptions id)
      ≡ inbox_of real.datagrams d.object
      → ((queue side : ℕ) → option_map (λ (e : Desc). e.object) (map.get real.book.descriptions id)
      ≡ Some (object.Datagram queue side) → d.object ≡ object.Datagram queue side)
      → Stands g held
      (record real { book = record real.book { descriptions = map.insert real.book.descriptions id d } })
      (with_description k id (seen_desc g.virts g.names real.datagrams held id d))
  description_put inbox named =
      book_kept g held real k st (record real.book { descriptions = map.insert real.book.descriptions id d })
      k.descriptors (map.insert k.descriptions id (seen_desc g.virts g.names real.datagrams held id d))
      st.descriptors
      (SameDescriptions-put g.virts g.names g.names g.addresses g.addresses real.datagrams real.datagrams held
      k.descriptions real.book.descriptions st.descriptions id d
      (λ q e differ is. still_told g.virts g.names g.addresses real.datagrams held k.descriptions
      real.book.descriptions st.descriptions q e is) known told)
      (SameInboxes-put real.datagrams k.inboxes real.book.descriptions st.inboxes id d inbox named)

  -- the same kind of object as before
  pub description_changed : (e : Desc) → map.get real.book.descriptions id ≡ Some e
      → inbox_of real.datagrams e.object ≡ inbox_of real.datagrams d.object
      → ((queue side : ℕ) → e.object ≡ object.Datagram queue side → d.object ≡ object.Datagram queue side)
      → Stands g held
      (record real { book = record real.book { descriptions = map.insert real.book.descriptions id d } })
      (with_description k id (seen_desc g.virts g.names real.datagrams held id d))
  description_changed e is inbox named =
      description_put (ap (option_and_then (λ (x : Desc). inbox_of real.datagrams x.object)) is ∙ inbox)
      (λ queue side was. named queue side
      (same_Some _ _ (sym (ap (option_map (λ (x : Desc). x.object)) is) ∙ was)))

  -- a new one without messages
  pub description_new : map.get real.book.descriptions id ≡ None → HasNoInbox d.object → Stands g held
      (record real { book = record real.book { descriptions = map.insert real.book.descriptions id d } })
      (with_description k id (seen_desc g.virts g.names real.datagrams held id d))
  description_new none no_end =
      description_put (ap (option_and_then (λ (x : Desc). inbox_of real.datagrams x.object)) none
      ∙ sym (no_inbox real.datagrams d.object no_end))
      (λ queue side was. absurd (none-some _ (sym (ap (option_map (λ (x : Desc). x.object)) none) ∙ was)))
