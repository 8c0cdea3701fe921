-- The content of the page to which a signal handler returns: its code, and zeros
use Rattle.std.proofs.Common.{◌≡◌, ℕ, zero, suc, ◌+◌, ◌==◌, ◌&&◌, Bool, true, false, List, [], ◌∷◌, ◌++◌, length, take, drop, replicate, refl, sym, ap, ◌∙◌, arith}
use Rattle.std.specs.List.{list_all}
use Rattle.std.specs.Str.{bytes_eq}
use Rattle.std.proofs.Math.Seq.{take-append-add}
use Rattle.std.proofs.lemmas.List.{take-replicate, take-append-drop, take_at, drop_at, length-drop}
use Rattle.std.proofs.lemmas.Bool.Decides.{nat_tests}
use Rattle.std.proofs.lemmas.Slice.Eq.{bytes_eq-Decides}
use Rattle.plain_process.specs.Start.{return_code}
use Rattle.image_process.specs.ProcessTests.{return_content}

same_tests : (a b : Bool) → (a ≡ true → b ≡ true) → (b ≡ true → a ≡ true) → a ≡ b
same_tests true b to from = sym (to refl)
same_tests false true to from = from refl
same_tests false false to from = refl

and_left : (a b : Bool) → (a && b) ≡ true → a ≡ true
and_left true b h = refl
and_left false b h = h

and_right : (a b : Bool) → (a && b) ≡ true → b ≡ true
and_right true b h = h
and_right false b h = cc

both : (a b : Bool) → a ≡ true → b ≡ true → (a && b) ≡ true
both a b p q = rw (p, q) refl

zeros : (bytes : List ℕ) → list_all (λ byte. byte == 0) bytes ≡ true → bytes ≡ replicate (length bytes) 0
zeros [] h = refl
zeros (b ∷ bytes) h =
    let first : b ≡ 0 = grind (arith, nat_tests) in
    let rest : list_all (λ byte. byte == 0) bytes ≡ true = and_right _ _ h in
    rw first (ap (λ (r : List ℕ). 0 ∷ r) (zeros bytes rest))

all_zero : (n : ℕ) → list_all (λ byte. byte == 0) (replicate n 0) ≡ true
all_zero zero = refl
all_zero (suc n) = all_zero n

filled : (code : List ℕ) (n size : ℕ) → length code + n ≡ size → take size (code ++ replicate size 0) ≡ code ++ replicate n 0
filled code n size e =
    ap (λ (m : ℕ). take m (code ++ replicate size 0)) (sym e) ∙ take-append-add code (replicate size 0) n ∙ ap (λ (r : List ℕ). code ++ r) (take-replicate n size 0 (omega arith))

-- the test in two parts, for a content of any size
content_by : (code content bytes : List ℕ) (k n size : ℕ) → length code ≡ k → k + n ≡ size → content ≡ take size (code ++ replicate size 0) → length bytes ≡ size
    → (bytes_eq (take k bytes) code && list_all (λ byte. byte == 0) (drop k bytes)) ≡ bytes_eq bytes content
content_by code content bytes k n size is_code parts is_content is_size =
    let whole : content ≡ code ++ replicate n 0 = is_content ∙ filled code n size (ap (λ (m : ℕ). m + n) is_code ∙ parts) in
    same_tests _ _
    (λ h.
    let front : take k bytes ≡ code = (bytes_eq-Decides (take k bytes) code).0 (and_left _ _ h) in
    let left : length (drop k bytes) ≡ n = omega (arith, length-drop k bytes) in
    let back : drop k bytes ≡ replicate n 0 = zeros (drop k bytes) (and_right _ _ h) ∙ ap (λ (m : ℕ). replicate m 0) left in
    (bytes_eq-Decides bytes content).1 (sym (take-append-drop k bytes) ∙ ap (λ (r : List ℕ). r ++ drop k bytes) front ∙ ap (λ (r : List ℕ). code ++ r) back ∙ sym whole))
    (λ h.
    let same : bytes ≡ code ++ replicate n 0 = (bytes_eq-Decides bytes content).0 h ∙ whole in
    let front : take k bytes ≡ code = ap (take k) same ∙ take_at code (replicate n 0) k is_code in
    let back : drop k bytes ≡ replicate n 0 = ap (drop k) same ∙ drop_at code (replicate n 0) k is_code in
    both _ _ ((bytes_eq-Decides (take k bytes) code).1 front) (ap (list_all (λ byte. byte == 0)) back ∙ all_zero n))

content_is : (code bytes front back : List ℕ) (starts rest_is : Bool) → code ≡ return_code → length bytes ≡ 4096 → front ≡ take 8 bytes → back ≡ drop 8 bytes
    → starts ≡ bytes_eq front code → rest_is ≡ list_all (λ byte. byte == 0) back → (starts && rest_is) ≡ bytes_eq bytes return_content
unfolding return_content
content_is code bytes front back starts rest_is is_code size is_front is_back is_starts is_rest =
    rw (is_starts, is_rest, is_front, is_back, is_code) (content_by return_code return_content bytes 8 4088 4096 refl refl refl size)

pub content_after : (code bytes front back : List ℕ) (starts rest_is : Bool) → code ≡ return_code → length bytes ≡ 4096 → front ≡ take 8 bytes → back ≡ drop 8 bytes
    → starts ≡ bytes_eq front code → rest_is ≡ list_all (λ byte. byte == 0) back → starts ≡ true → rest_is ≡ bytes_eq bytes return_content
content_after code bytes front back starts rest_is is_code size is_front is_back is_starts is_rest begins =
    ap (λ (s : Bool). s && rest_is) (sym begins) ∙ content_is code bytes front back starts rest_is is_code size is_front is_back is_starts is_rest

pub content_not : (code bytes front back : List ℕ) (starts : Bool) → code ≡ return_code → length bytes ≡ 4096 → front ≡ take 8 bytes → back ≡ drop 8 bytes
    → starts ≡ bytes_eq front code → starts ≡ false → starts ≡ bytes_eq bytes return_content
content_not code bytes front back starts is_code size is_front is_back is_starts differs =
    differs ∙ ap (λ (s : Bool). s && list_all (λ byte. byte == 0) back) (sym differs) ∙ content_is code bytes front back starts _ is_code size is_front is_back is_starts refl
