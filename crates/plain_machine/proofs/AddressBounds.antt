-- The bytes of addresses: what they name is within its limits, and an address that is written fits where it goes.
--     endpoint_port, named_low, front_endpoint      what the bytes of an address name
--     IsShown, own_shown, peer_shown, end_shown      a name is few bytes      named_room      it can be written
use Rattle.std.proofs.Common.{◌≡◌, ℕ, zero, suc, ◌+◌, ◌-◌, ◌<◌, ◌≤◌, Bool, true, false, cond, List, [], ◌∷◌, ◌++◌, length, take, length-append, refl, sym, ap, subst, ◌∙◌, arith}
use Rattle.std.specs.Prelude.{min, slice_index, Option, Some, None, unwrap_or, option_and_then, All}
use Rattle.std.specs.Option.{option_map}
use Rattle.std.specs.List.{list_all}
use Rattle.std.specs.FinMap as map
use Rattle.std.proofs.lemmas.Bool.Decides.{nat_tests}
use Rattle.std.proofs.lemmas.List.Elements.{All-from_recursion, All-head, All-tail, All-append, All-take}
use Rattle.plain_tables.specs.OfSysAbi.declared.identity.VirtAddr.{VirtAddr}
use Rattle.plain_tables.specs.OfSysAbi.declared.errors.TheConstants.{ENOTCONN}
use Rattle.plain_tables.specs.OfCallTable.declared.request.Request.{Request}
use Rattle.plain_machine.specs.declared.kernel.PlainKernel.{PlainKernel}
use Rattle.plain_tables.specs.declared.channel.Channel.{Channel}
use Rattle.plain_tables.specs.declared.description.Object.{Object}
use Rattle.plain_tables.specs.declared.description.Object.TheVariants.{Stream, Socket, Listener, Datagram}
use Rattle.plain_tables.specs.Objects.{end_of, bound_at}
use Rattle.plain_tables.specs.OfPlainProcess.declared.memory.Right.{Right}
use Rattle.plain_tables.specs.OfPlainProcess.declared.memory.Right.TheVariants.{Read as ToRead}
use Rattle.plain_tables.specs.OfPlainProcess.declared.buffers.Source.TheVariants.{Bytes}
use Rattle.plain_tables.specs.OfPlainProcess.Memory.{Memory, byte_at, bytes_at, followed_by, little_endian, low_bytes}
use Rattle.plain_tables.specs.OfPlainProcess.Buffers.{span, reads_of, bytes_of, given_of, length_place, length_at, size_of, address_spans, fills_of, filled_spans, can_write, written_spans, lent}
use Rattle.plain_tables.specs.OfPlainProcess.Put.{CanTake}
use Rattle.plain_tables.specs.OfPlainProcess.Valid.{IsByte}
use Rattle.plain_tables.proofs.OfPlainProcess.MemoryBounds.{low_bytes_are}
use Rattle.plain_machine.specs.Addresses.{Endpoint, endpoint_of, is_own_name, is_host_name, named_host, address_bytes, unbound_bytes, pair_bytes, cut_to}
use Rattle.plain_machine.specs.SocketWords.{shown_as, end_name}
use Rattle.plain_machine.specs.Rows.Sockets.{own_name, peer_name}
use Rattle.plain_machine.specs.Serve.{front_of}
use Rattle.plain_machine.proofs.Trying.{Trying, succeeds, fails}
use Rattle.plain_machine.proofs.MemoryPages.{FitsSpans}
use Rattle.plain_machine.proofs.CallBounds.{lent_room}

-- what the bytes name

index_byte : (bytes : List ℕ) (i : ℕ) → All IsByte bytes → slice_index bytes i < 256
index_byte [] i all = omega arith
index_byte (x ∷ xs) zero all = All-head IsByte x xs all
index_byte (x ∷ xs) (suc i) all = index_byte xs i (All-tail IsByte x xs all)

pub endpoint_port : (bytes : List ℕ) → All IsByte bytes → (endpoint_of bytes).port < 65536
endpoint_port bytes all =
    let high = index_byte bytes 2 all in
    let low = index_byte bytes 3 all in
    omega arith

pub named_low : (own : ℕ) (endpoint : Endpoint) (host : ℕ) → own < 16 → named_host own endpoint ≡ Some host → host < 16
unfolding named_host
named_low own endpoint host low is = chosen (is_own_name endpoint.host) (is_host_name endpoint.host) refl is
  where
    chosen : (a b : Bool) → is_host_name endpoint.host ≡ b → cond a (Some own) (cond b (Some (endpoint.host - 0x0A000001)) None) ≡ Some host → host < 16
    chosen true b other is = let same : own ≡ host = cc in omega arith
    chosen false true within is = let same : endpoint.host - 0x0A000001 ≡ host = cc in let most : endpoint.host ≤ 0x0A000010 = grind (arith, nat_tests, within) in omega arith
    chosen false false other is = absurd (nothing is)
      where
        nothing : None ≡ Some host → ⊥
        nothing is = cc

-- the front of the bytes names the same
pub front_endpoint : (given : List ℕ) → endpoint_of (front_of given) ≡ endpoint_of given
front_endpoint [] = refl
front_endpoint (a ∷ []) = refl
front_endpoint (a ∷ b ∷ []) = refl
front_endpoint (a ∷ b ∷ c ∷ []) = refl
front_endpoint (a ∷ b ∷ c ∷ d ∷ []) = refl
front_endpoint (a ∷ b ∷ c ∷ d ∷ e ∷ []) = refl
front_endpoint (a ∷ b ∷ c ∷ d ∷ e ∷ f ∷ []) = refl
front_endpoint (a ∷ b ∷ c ∷ d ∷ e ∷ f ∷ g ∷ []) = refl
front_endpoint (a ∷ b ∷ c ∷ d ∷ e ∷ f ∷ g ∷ h ∷ rest) = refl

-- names

pub record IsShown (name : List ℕ) : Type 0 where
  pub bytes : All IsByte name
  pub few : length name ≤ 16

address_shown : (address : VirtAddr) → IsShown (address_bytes address)
address_shown address = record {
  bytes = All-from_recursion IsByte (address_bytes address)
      (omega arith, (omega arith, (omega arith, (omega arith, (omega arith, (omega arith, (omega arith, (omega arith, (omega arith, (omega arith, (omega arith, (omega arith, (omega arith, (omega arith, (omega arith, (omega arith, tt))))))))))))))));
  few = omega arith;
}

unbound_shown : IsShown unbound_bytes
unbound_shown = record {
  bytes = All-from_recursion IsByte unbound_bytes
      (omega arith, (omega arith, (omega arith, (omega arith, (omega arith, (omega arith, (omega arith, (omega arith, (omega arith, (omega arith, (omega arith, (omega arith, (omega arith, (omega arith, (omega arith, (omega arith, tt))))))))))))))));
  few = omega arith;
}

pair_shown : IsShown pair_bytes
pair_shown = record { bytes = All-from_recursion IsByte pair_bytes (omega arith, (omega arith, tt)); few = omega arith }

shown : (other : List ℕ) (address : Option VirtAddr) → IsShown other → IsShown (shown_as other address)
shown other None is = is
shown other (Some address) is = address_shown address

pub end_shown : (found : Option Channel) (side : ℕ) → IsShown (end_name found side)
end_shown None side = pair_shown
end_shown (Some channel) side = shown pair_bytes (end_of channel side).address pair_shown

pub own_shown : (k : PlainKernel) (object : Object) → IsShown (own_name k object)
own_shown k (Stream conn side) = end_shown (map.get k.channels conn) side
own_shown k (Datagram peer) = pair_shown
own_shown k (Socket address) = shown unbound_bytes (bound_at (Socket address)) unbound_shown
own_shown k (Listener address) = address_shown address
own_shown k _ = unbound_shown

pub peer_shown : (k : PlainKernel) (object : Object) → Trying (peer_name k object) IsShown
peer_shown k (Stream conn side) = succeeds (end_name (map.get k.channels conn) (1 - side)) (end_shown (map.get k.channels conn) (1 - side))
peer_shown k (Datagram peer) = succeeds pair_bytes pair_shown
peer_shown k _ = fails ENOTCONN

-- a name that is written

take_short : (n : ℕ) (xs : List ℕ) → length (take n xs) ≤ n
take_short zero xs = omega arith
take_short (suc n) [] = omega arith
take_short (suc n) (x ∷ xs) = let rest = take_short n xs in omega arith

take_fewer : (n : ℕ) (xs : List ℕ) → length (take n xs) ≤ length xs
take_fewer zero xs = omega arith
take_fewer (suc n) [] = omega arith
take_fewer (suc n) (x ∷ xs) = let rest = take_fewer n xs in omega arith

take_whole : (n : ℕ) (xs : List ℕ) → length xs ≡ n → take n xs ≡ xs
take_whole zero [] is = refl
take_whole zero (x ∷ xs) is = absurd (omega arith)
take_whole (suc n) [] is = absurd (omega arith)
take_whole (suc n) (x ∷ xs) is = ap (λ (rest : List ℕ). x ∷ rest) (take_whole n xs (omega arith))

pub cut_count : (given name : List ℕ) → length (cut_to given name) ≡ length (take (little_endian (take 4 given)) name) + 4
cut_count given name = length-append (take (little_endian (take 4 given)) name) (low_bytes 4 (length name))

pub cut_short : (given name : List ℕ) → IsShown name → length (cut_to given name) ≤ 20
cut_short given name is =
    let count = cut_count given name in
    let fewer = take_fewer (little_endian (take 4 given)) name in
    let few = is.few in
    omega arith

pub cut_bytes : (given name : List ℕ) → IsShown name → All IsByte (cut_to given name)
cut_bytes given name is = All-append IsByte (take (little_endian (take 4 given)) name) (low_bytes 4 (length name)) (All-take IsByte (little_endian (take 4 given)) name is.bytes) (low_bytes_are 4 (length name))

read_count : (memory : Memory) (right : Right) (address n : ℕ) (bytes : List ℕ) → bytes_at memory right address n ≡ Some bytes → length bytes ≡ n
unfolding bytes_at
read_count memory right address zero bytes is = let same : [] ≡ bytes = cc in ap length (sym same)
read_count memory right address (suc n) bytes is = chosen (bytes_at memory right address n) (byte_at memory right (address + n)) (λ front there. read_count memory right address n front there) is
  where
    chosen : (front : Option (List ℕ)) (byte : Option ℕ) → ((xs : List ℕ) → front ≡ Some xs → length xs ≡ n) → followed_by front byte ≡ Some bytes → length bytes ≡ suc n
    chosen None None before is = cc
    chosen None (Some byte) before is = cc
    chosen (Some xs) None before is = cc
    chosen (Some xs) (Some byte) before is =
        let same : xs ++ byte ∷ [] ≡ bytes = cc in
        let count = length-append xs (byte ∷ []) in
        let few = before xs refl in
        let whole = ap length same in
        omega arith

lent_given : (memory : Memory) (q : Request) (given : List ℕ) → lent memory q ≡ Some given → given_of memory q ≡ Some given
unfolding lent
lent_given memory q given is = chosen (given_of memory q) (list_all (can_write memory) (written_spans memory q)) is
  where
    chosen : (found : Option (List ℕ)) (b : Bool) → option_and_then (λ (bytes : List ℕ). cond b (Some bytes) None) found ≡ Some given → found ≡ Some given
    chosen None b is = cc
    chosen (Some bytes) true is = is
    chosen (Some bytes) false is = cc

within : (n size : ℕ) → n ≤ size → n ≤ 16 → n + 4 ≤ min size 65536 + 4
within n size one two = omega arith

module _ (memory : Memory) (q : Request) (address place : ℕ) (given name : List ℕ) (reads : reads_of q ≡ Bytes (span place 4)) (at : length_place q ≡ Some place)
    (fills : (size : ℕ) → fills_of q size ≡ address_spans address place size) (is : IsShown name) (reads_it : lent memory q ≡ Some given) where
  read : bytes_at memory ToRead place 4 ≡ Some given
  unfolding given_of
  read = sym (ap (bytes_of memory) reads) ∙ lent_given memory q given reads_it

  size : size_of memory q ≡ little_endian given
  unfolding size_of
  size = ap (length_at memory) at ∙ ap (λ o. unwrap_or (option_map little_endian o) 0) read

  fits : FitsSpans (address_spans address place (size_of memory q)) (length (cut_to given name))
  fits =
      let whole = take_whole 4 given (read_count memory ToRead place 4 given read) in
      let room : length (take (little_endian (take 4 given)) name) ≤ little_endian (take 4 given) = take_short (little_endian (take 4 given)) name in
      let same : little_endian (take 4 given) ≡ size_of memory q = ap little_endian whole ∙ sym size in
      let few = is.few in
      let fewer = take_fewer (little_endian (take 4 given)) name in
      subst (λ n. n ≤ min (size_of memory q) 65536 + 4) (sym (cut_count given name))
      (within (length (take (little_endian (take 4 given)) name)) (size_of memory q) (omega arith) (omega arith))

  pub named_room : CanTake memory (filled_spans memory q) (cut_to given name)
  named_room = lent_room memory q given (cut_to given name) reads_it (subst (λ spans. FitsSpans spans (length (cut_to given name))) (sym (fills (size_of memory q))) fits)
