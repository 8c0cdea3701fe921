-- Numbers of the shared image and what they stand for, and the law of a field on whose value the rest hangs
use Rattle.std.proofs.Common.{◌≡◌, ◌==◌, ◌&&◌, ◌||◌, ◌+◌, ◌*◌, ◌%◌, ℕ, zero, suc, Bool, true, false, cond, IsTrue, List, ◌++◌, refl, sym, ap, subst, ◌∙◌, arith, lit<}
use Rattle.std.specs.Prelude.{Option, Some, None, is_some, nat_le}
use Rattle.std.proofs.lemmas.Bool.Decides.{nat_tests}
use Rattle.sys_abi.specs.declared.identity.VirtAddr.{VirtAddr}
use Rattle.plain_tables.specs.declared.channel.ChannelKind.{ChannelKind}
use Rattle.plain_tables.specs.declared.channel.ChannelKind.TheVariants.{Pair, Internet, Pipe}
use Rattle.image_format.specs.Format.{FormatOf, next, n8, Spells}
use Rattle.image_format.specs.Texts.{FitsField}
use Rattle.image_format.proofs.Texts.{Law}
use Rattle.shared_items.specs.SharedTests as field
use Rattle.shared_items.specs.SharedFits.{flag, number_of_kind, host_number, port_number}
use Rattle.shared_items.specs.SharedFormat.{channel_kind, side_address}

pub is_zero : (n : ℕ) → IsTrue (n == 0) → n ≡ 0
is_zero n h = grind (arith, nat_tests)

pub both_true : (a b : Bool) → IsTrue (a && b) → IsTrue a × IsTrue b
both_true true true h = (refl, refl)
both_true true false h = cc
both_true false b h = cc

-- flags

pub flag_of_number : (n : ℕ) → IsTrue (field.is_flag n) → flag (n == 1) ≡ n
flag_of_number n h = grind (arith, nat_tests)

pub number_of_flag : (b : Bool) → (flag b == 1) ≡ b
number_of_flag true = refl
number_of_flag false = refl

pub flag_fits : (b : Bool) → FitsField n8 field.is_flag (flag b)
flag_fits true = (lit< tt, refl)
flag_fits false = (lit< tt, refl)

-- the two flags of a side

pub two_flags : (n : ℕ) → IsTrue (field.is_side_flags n) → flag (n % 2 == 1) + 2 * flag (nat_le 2 n) ≡ n
two_flags zero h = refl
two_flags (suc zero) h = refl
two_flags (suc (suc zero)) h = refl
two_flags (suc (suc (suc zero))) h = refl
two_flags (suc (suc (suc (suc n)))) h = grind (arith, nat_tests)

pub flags_fit : (first second : Bool) → FitsField n8 field.is_side_flags (flag first + 2 * flag second)
flags_fit true true = (lit< tt, refl)
flags_fit true false = (lit< tt, refl)
flags_fit false true = (lit< tt, refl)
flags_fit false false = (lit< tt, refl)

pub first_flag : (first second : Bool) → ((flag first + 2 * flag second) % 2 == 1) ≡ first
first_flag true true = refl
first_flag true false = refl
first_flag false true = refl
first_flag false false = refl

pub second_flag : (first second : Bool) → nat_le 2 (flag first + 2 * flag second) ≡ second
second_flag true true = refl
second_flag true false = refl
second_flag false true = refl
second_flag false false = refl

-- kinds of channels

pub kind_of_number : (n : ℕ) → IsTrue (field.is_channel_kind n) → number_of_kind (channel_kind n) ≡ n
kind_of_number zero h = refl
kind_of_number (suc zero) h = refl
kind_of_number (suc (suc zero)) h = refl
kind_of_number (suc (suc (suc n))) h = grind (arith, nat_tests)

pub number_of_channel : (kind : ChannelKind) → channel_kind (number_of_kind kind) ≡ kind
number_of_channel Pair = refl
number_of_channel Internet = refl
number_of_channel Pipe = refl

pub kind_fits : (kind : ChannelKind) → FitsField n8 field.is_channel_kind (number_of_kind kind)
kind_fits Pair = (lit< tt, refl)
kind_fits Internet = (lit< tt, refl)
kind_fits Pipe = (lit< tt, refl)

-- addresses

abbrev at_host : ℕ → ℕ → Option VirtAddr
at_host host port = Some (record { host = host; port = port })

pub host_of_side : (kind host port : ℕ) → IsTrue (field.is_side_host kind host) → host_number (side_address kind host port) ≡ host
host_of_side kind host port h =
    elim (kind == 1) as (λ b. IsTrue (cond b (field.is_host host) (host == 0xFFFFFFFF)) → host_number (cond b (at_host host port) None) ≡ host) [
      | true ↦ λ _. refl
      | false ↦ λ none. grind (arith, nat_tests)
    ] h

pub port_of_side : (kind host port : ℕ) → IsTrue (field.is_side_port kind port) → port_number (side_address kind host port) ≡ port
port_of_side kind host port h =
    elim (kind == 1) as (λ b. IsTrue (cond b (field.is_port port) (port == 0)) → port_number (cond b (at_host host port) None) ≡ port) [
      | true ↦ λ _. refl
      | false ↦ λ none. grind (arith, nat_tests)
    ] h

pub has_address : (kind host port : ℕ) → is_some (side_address kind host port) ≡ (kind == 1)
has_address kind host port =
    elim (kind == 1) as (λ b. is_some (cond b (at_host host port) None) ≡ b) [
      | true ↦ refl
      | false ↦ refl
    ]

pub address_back : (kind : ℕ) (address : Option VirtAddr) → is_some address ≡ (kind == 1) → address ≡ side_address kind (host_number address) (port_number address)
address_back kind None h = ap (λ b. cond b (at_host 0xFFFFFFFF 0) None) h
address_back kind (Some address) h = ap (λ b. cond b (Some address) None) h

-- a field after which comes what its value allows

pub next_law_if : {A B : Type 0} (f : FormatOf B) (k : B → FormatOf A) (text : B → List ℕ) (Fits : B → Type 0) (rest_text : A → List ℕ) (RestFits : B → A → Type 0) (get : A → B)
    → Law f text Fits → ((b : B) (a : A) → Fits b → RestFits b a → b ≡ get a) → ((b : B) → Fits b → Law (k b) rest_text (RestFits b))
    → Law (next f k) (λ a. text (get a) ++ rest_text a) (λ a. Fits (get a) × RestFits (get a) a)
unfolding Spells
next_law_if {A} {B} f k text Fits rest_text RestFits get law found laws = record {
  only = λ t a (b, first, rest, e, s, r).
      let (is_first, fits) = law.only first b s in
      let (is_rest, rest_fits) = (laws b fits).only rest a r in
      let same = found b a fits rest_fits in
      let first_is : first ≡ text (get a) = is_first ∙ ap text same in (
        e ∙ ap (λ (x : List ℕ). x ++ rest) first_is ∙ ap (λ (x : List ℕ). text (get a) ++ x) is_rest,
        (subst Fits same fits, subst (λ (x : B). RestFits x a) same rest_fits),
      );
  again = λ a h.
      (get a, text (get a), rest_text a, refl, law.again (get a) h.0, (laws (get a) h.0).again a h.1);
}
