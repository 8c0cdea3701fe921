-- The length of a text, found byte by byte.
use Rattle.std.proofs.Common.{◌≡◌, ℕ, suc, ◌+◌, ◌-◌, ◌<◌, List, [], ◌∷◌, ◌++◌, refl, sym, ap, ◌∙◌, true, false, arith, append-nil, ◌≢◌}
use Rattle.std.proofs.lemmas.Bool.{true≢false}
use Rattle.std.specs.Prelude.{Option, Some, None, is_some, option_map}
use Rattle.plain_process.specs.declared.memory.Right.TheVariants.{Read}
use Rattle.plain_process.specs.Memory.{Memory, byte_at, bytes_at, followed_by}
use Rattle.plain_process.specs.declared.buffers.Source.{Source}
use Rattle.plain_process.specs.declared.buffers.Source.TheVariants.{Nothing}
use Rattle.plain_process.specs.Buffers.{text_at, bytes_of}
use Rattle.plain_process.proofs.TextBytes.{text-zero, rest_at, text_from-some, behind}

-- the first so many bytes are there, none of them zero, and the text goes on after them
pub record TextSoFar (memory : Memory) (address done : ℕ) : Type 0 where
  pub front : List ℕ
  pub bytes : bytes_at memory Read address done ≡ Some front
  pub text : text_at memory address 256 ≡ option_map (λ rest. front ++ rest) (text_at memory (address + done) (256 - done))

bytes-suc : (memory : Memory) (address n : ℕ) → bytes_at memory Read address (suc n) ≡ followed_by (bytes_at memory Read address n) (byte_at memory Read (address + n))
unfolding bytes_at
bytes-suc memory address n = refl

bytes-zero : (memory : Memory) (address : ℕ) → bytes_at memory Read address 0 ≡ Some []
unfolding bytes_at
bytes-zero memory address = refl

same_option : (o : Option (List ℕ)) → o ≡ option_map (λ rest. [] ++ rest) o
same_option None = refl
same_option (Some rest) = refl

pub starts : (memory : Memory) (address : ℕ) → TextSoFar memory address 0
starts memory address = record {
  front = [];
  bytes = bytes-zero memory address;
  text =
      let place : address ≡ address + 0 = omega arith in
      same_option (text_at memory address 256) ∙ ap (λ a. option_map (λ rest. [] ++ rest) (text_at memory a 256)) place;
}

bytes_next : (memory : Memory) (address done : ℕ) (front : List ℕ) (byte : Option ℕ) → bytes_at memory Read address done ≡ Some front → byte_at memory Read (address + done) ≡ byte
    → bytes_at memory Read address (done + 1) ≡ followed_by (Some front) byte
bytes_next memory address done front byte bytes is =
    let more : done + 1 ≡ suc done = omega arith in
    ap (bytes_at memory Read address) more ∙ bytes-suc memory address done ∙ ap (λ o. followed_by o (byte_at memory Read (address + done))) bytes ∙ ap (followed_by (Some front)) is

pub no_byte : (memory : Memory) (address done : ℕ) → TextSoFar memory address done → done < 256 → byte_at memory Read (address + done) ≡ None → text_at memory address 256 ≡ None
no_byte memory address done so_far less is = so_far.text ∙ ap (option_map (λ rest. so_far.front ++ rest)) (rest_at memory address done None less is)

missing_byte : (memory : Memory) (address done : ℕ) (front : List ℕ) (byte : Option ℕ) → bytes_at memory Read address done ≡ Some front → byte_at memory Read (address + done) ≡ byte
    → is_some (bytes_at memory Read address (done + 1)) ≡ false → byte ≡ None
missing_byte memory address done front None bytes is unreadable = refl
missing_byte memory address done front (Some b) bytes is unreadable =
    let readable = ap is_some (bytes_next memory address done front (Some b) bytes is) in absurd (true≢false (sym readable ∙ unreadable))

pub not_readable : (memory : Memory) (address done : ℕ) → TextSoFar memory address done → done < 256 → is_some (bytes_at memory Read address (done + 1)) ≡ false → text_at memory address 256 ≡ None
not_readable memory address done so_far less unreadable =
    no_byte memory address done so_far less (missing_byte memory address done so_far.front (byte_at memory Read (address + done)) so_far.bytes refl unreadable)

pub record Ended (memory : Memory) (address done : ℕ) : Type 0 where
  pub text : text_at memory address 256 ≡ bytes_at memory Read address done
  pub there : is_some (text_at memory address 256) ≡ true

-- a zero byte ends the text
pub ended : (memory : Memory) (address done byte : ℕ) → TextSoFar memory address done → done < 256 → byte_at memory Read (address + done) ≡ Some byte → byte ≡ 0 → Ended memory address (done + 1)
ended memory address done byte so_far less is zero_byte =
    let found = is ∙ ap Some zero_byte in
    let text = so_far.text ∙ ap (option_map (λ rest. so_far.front ++ rest)) (rest_at memory address done (Some 0) less found) in
    record { text = text ∙ sym (bytes_next memory address done so_far.front (Some 0) so_far.bytes found); there = ap is_some text }

-- another byte doesn't
pub goes_on : (memory : Memory) (address done byte : ℕ) → TextSoFar memory address done → done < 256 → byte_at memory Read (address + done) ≡ Some byte → byte ≢ 0 → TextSoFar memory address (done + 1)
goes_on memory address done byte so_far less is other =
    let place : address + done + 1 ≡ address + (done + 1) = omega arith in
    let left : 255 - done ≡ 256 - (done + 1) = omega arith in
    record {
      front = so_far.front ++ byte ∷ [];
      bytes = bytes_next memory address done so_far.front (Some byte) so_far.bytes is;
      text =
          so_far.text ∙ ap (option_map (λ rest. so_far.front ++ rest)) (rest_at memory address done (Some byte) less is ∙ text_from-some _ byte other)
          ∙ behind so_far.front byte (text_at memory (address + done + 1) (255 - done))
          ∙ ap (λ a. option_map (λ rest. (so_far.front ++ byte ∷ []) ++ rest) (text_at memory a (255 - done))) place
          ∙ ap (λ n. option_map (λ rest. (so_far.front ++ byte ∷ []) ++ rest) (text_at memory (address + (done + 1)) n)) left;
    }

-- as long as a text may be
pub full : (memory : Memory) (address done : ℕ) → TextSoFar memory address done → done ≡ 256 → Ended memory address 256
full memory address done so_far all =
    let none_left : 256 - done ≡ 0 = omega arith in
    let text = so_far.text ∙ ap (λ n. option_map (λ rest. so_far.front ++ rest) (text_at memory (address + done) n)) none_left
    ∙ ap (option_map (λ rest. so_far.front ++ rest)) (text-zero memory (address + done)) ∙ ap Some (append-nil so_far.front) in
    record { text = text ∙ sym so_far.bytes ∙ ap (bytes_at memory Read address) all; there = ap is_some text }

-- nothing is read from no place
pub nothing : (memory : Memory) (source : Source) → source ≡ Nothing → bytes_of memory source ≡ bytes_at memory Read 0 0
nothing memory source is = ap (bytes_of memory) is ∙ sym (bytes-zero memory 0)
