-- A word has the fixed bits of a row exactly where its fields are the row's.
use Rattle.std.proofs.Common.{◌≡◌, ◌≢◌, ℕ, ◌+◌, ◌*◌, ◌/◌, ◌%◌, ◌^◌, ◌<◌, Bool, true, ◌&&◌, ◌==◌, nat_lt, bit_and, find, None, sym, refl, ◌∙◌, ap, arith, lit<}
use Rattle.std.proofs.Math.Nat.{mod-eq_of_lt}
use Rattle.std.proofs.Math.Pow.{mod-mod-pow}
use Rattle.std.proofs.lemmas.Nat.{and_mask, and_block, shr_split, mod_below, field_of, div_below}
use Rattle.std.proofs.lemmas.Bool.{ne_eqb}
use Rattle.std.proofs.lemmas.Bool.Decides.{nat_tests}
use Rattle.plain_process.specs.declared.instruction.Op.{Op}
use Rattle.plain_process.specs.declared.instruction.Op.TheVariants.{Lui}
use Rattle.plain_process.specs.Instructions.{Format, R, I, S, B, U, J, Shift, Whole, Encoding, as_encoding, encoding, fixed_bits, mask_of, match_of, has_match, row_of, rows}
use Rattle.rv_words.specs.Fields.{fits_format, fits, row_at}

-- ---- what masks leave

low_bits : (w : ℕ) → bit_and w 0x7F ≡ w % 128
low_bits w = and_mask w 7

low_and_funct3 : (w : ℕ) → bit_and w 0x707F ≡ w / 2 ^ 12 % 8 * 2 ^ 12 + w % 128
low_and_funct3 w =
    ap (λ n. bit_and n 0x707F) (sym (shr_split w 12))
    ∙ and_block 12 (w / 2 ^ 12) 7 (w % 2 ^ 12) 0x7F (mod_below w (2 ^ 12) (lit< tt)) (lit< tt)
    ∙ ap (λ n. n * 2 ^ 12 + bit_and (w % 2 ^ 12) 0x7F) (and_mask (w / 2 ^ 12) 3)
    ∙ ap (λ n. w / 2 ^ 12 % 8 * 2 ^ 12 + n) (and_mask (w % 2 ^ 12) 7 ∙ mod-mod-pow w 5 7)

low_part : (w : ℕ) → bit_and (w % 2 ^ 25) 0x707F ≡ w / 2 ^ 12 % 8 * 2 ^ 12 + w % 128
low_part w =
    low_and_funct3 (w % 2 ^ 25)
    ∙ ap (λ n. n % 8 * 2 ^ 12 + w % 2 ^ 25 % 128) (field_of w 13 12)
    ∙ ap (λ n. n * 2 ^ 12 + w % 2 ^ 25 % 128) (mod-mod-pow (w / 2 ^ 12) 10 3)
    ∙ ap (λ n. w / 2 ^ 12 % 8 * 2 ^ 12 + n) (mod-mod-pow w 18 7)

all_fields : (w : ℕ) → w < 2 ^ 32 → bit_and w 0xFE00707F ≡ w / 2 ^ 25 * 2 ^ 25 + (w / 2 ^ 12 % 8 * 2 ^ 12 + w % 128)
all_fields w h =
    ap (λ n. bit_and n 0xFE00707F) (sym (shr_split w 25))
    ∙ and_block 25 (w / 2 ^ 25) 127 (w % 2 ^ 25) 0x707F (mod_below w (2 ^ 25) (lit< tt)) (lit< tt)
    ∙ ap (λ n. n * 2 ^ 25 + bit_and (w % 2 ^ 25) 0x707F) (and_mask (w / 2 ^ 25) 7 ∙ mod-eq_of_lt (div_below w (2 ^ 25) 128 (lit< tt) h))
    ∙ ap (λ n. w / 2 ^ 25 * 2 ^ 25 + n) (low_part w)

whole_word : (w : ℕ) → w < 2 ^ 32 → bit_and w 0xFFFFFFFF ≡ w
whole_word w h = and_mask w 32 ∙ mod-eq_of_lt h

-- ---- a row's test

abbrev in_fields : Format → ℕ → ℕ → ℕ → Bool
in_fields U c f s = nat_lt c 128 && (f == 0) && (s == 0)
in_fields J c f s = nat_lt c 128 && (f == 0) && (s == 0)
in_fields I c f s = nat_lt c 128 && nat_lt f 8 && (s == 0)
in_fields S c f s = nat_lt c 128 && nat_lt f 8 && (s == 0)
in_fields B c f s = nat_lt c 128 && nat_lt f 8 && (s == 0)
in_fields R c f s = nat_lt c 128 && nat_lt f 8 && nat_lt s 128
in_fields Shift c f s = nat_lt c 128 && nat_lt f 8 && nat_lt s 128
in_fields Whole c f s = (f == 0) && (s == 0)

by_low : (n o c f s : ℕ) → n ≡ o → (nat_lt c 128 && (f == 0) && (s == 0)) ≡ true → (n == c + 2 ^ 12 * f + 2 ^ 25 * s) ≡ (o == c)
by_low n o c f s e t = grind (arith, nat_tests)

by_funct3 : (n o h c f s : ℕ) → n ≡ h * 2 ^ 12 + o → o < 128 → h < 8 → (nat_lt c 128 && nat_lt f 8 && (s == 0)) ≡ true → (n == c + 2 ^ 12 * f + 2 ^ 25 * s) ≡ ((o == c) && (h == f))
by_funct3 n o h c f s e i j t = grind (arith, nat_tests)

by_funct7 : (n o h g c f s : ℕ) → n ≡ g * 2 ^ 25 + (h * 2 ^ 12 + o) → o < 128 → h < 8 → (nat_lt c 128 && nat_lt f 8 && nat_lt s 128) ≡ true → (n == c + 2 ^ 12 * f + 2 ^ 25 * s) ≡ ((o == c) && (h == f) && (g == s))
by_funct7 n o h g c f s e i j t = grind (arith, nat_tests)

by_word : (w n c f s : ℕ) → n ≡ w → ((f == 0) && (s == 0)) ≡ true → (n == c + 2 ^ 12 * f + 2 ^ 25 * s) ≡ ((w % 128 == c % 128) && (w == c))
by_word w n c f s e t = grind (arith, nat_tests)

abbrev fits_word : ℕ → Encoding → Bool
fits_word w row = fits_format row.format row (w % 128) (w / 2 ^ 12 % 8) (w / 2 ^ 25) w

same_test-by : (w : ℕ) → w < 2 ^ 32 → (format : Format) (c f s : ℕ) → in_fields format c f s ≡ true → (bit_and w (fixed_bits format) == c + 2 ^ 12 * f + 2 ^ 25 * s) ≡ fits_word w (as_encoding format c f s)
same_test-by w h U c f s t = by_low _ (w % 128) c f s (low_bits w) t
same_test-by w h J c f s t = by_low _ (w % 128) c f s (low_bits w) t
same_test-by w h I c f s t = by_funct3 _ (w % 128) (w / 2 ^ 12 % 8) c f s (low_and_funct3 w) (mod_below w 128 (lit< tt)) (mod_below (w / 2 ^ 12) 8 (lit< tt)) t
same_test-by w h S c f s t = by_funct3 _ (w % 128) (w / 2 ^ 12 % 8) c f s (low_and_funct3 w) (mod_below w 128 (lit< tt)) (mod_below (w / 2 ^ 12) 8 (lit< tt)) t
same_test-by w h B c f s t = by_funct3 _ (w % 128) (w / 2 ^ 12 % 8) c f s (low_and_funct3 w) (mod_below w 128 (lit< tt)) (mod_below (w / 2 ^ 12) 8 (lit< tt)) t
same_test-by w h R c f s t = by_funct7 _ (w % 128) (w / 2 ^ 12 % 8) (w / 2 ^ 25) c f s (all_fields w h) (mod_below w 128 (lit< tt)) (mod_below (w / 2 ^ 12) 8 (lit< tt)) t
same_test-by w h Shift c f s t = by_funct7 _ (w % 128) (w / 2 ^ 12 % 8) (w / 2 ^ 25) c f s (all_fields w h) (mod_below w 128 (lit< tt)) (mod_below (w / 2 ^ 12) 8 (lit< tt)) t
same_test-by w h Whole c f s t = by_word w _ c f s (whole_word w h) t

rows_in_fields : (op : Op) → in_fields (encoding op).format (encoding op).opcode (encoding op).funct3 (encoding op).funct7 ≡ true
unfolding encoding
rows_in_fields Lui = refl
rows_in_fields _ = refl

pub same_test : (w : ℕ) → w < 2 ^ 32 → (op : Op) → has_match w op ≡ fits (w % 128) (w / 2 ^ 12 % 8) (w / 2 ^ 25) w op
unfolding mask_of match_of
same_test w h op = same_test-by w h (encoding op).format _ _ _ (rows_in_fields op)

pub row_of-fields : (w : ℕ) → w < 2 ^ 32 → row_of w ≡ row_at (w % 128) (w / 2 ^ 12 % 8) (w / 2 ^ 25) w
unfolding row_of row_at
row_of-fields w h = λ i. find (λ op. same_test w h op i) rows

-- ---- no row at an opcode that the table doesn't have

pub no_row : (o f g w : ℕ) → o ≢ 0x37 → o ≢ 0x17 → o ≢ 0x6F → o ≢ 0x67 → o ≢ 0x63 → o ≢ 0x03 → o ≢ 0x23 → o ≢ 0x13 → o ≢ 0x33 → o ≢ 0x0F → o ≢ 0x73 → row_at o f g w ≡ None
unfolding row_at encoding
no_row o f g w a b c d e i j k l m n =
    rw (ne_eqb _ _ a, ne_eqb _ _ b, ne_eqb _ _ c, ne_eqb _ _ d, ne_eqb _ _ e, ne_eqb _ _ i, ne_eqb _ _ j, ne_eqb _ _ k, ne_eqb _ _ l, ne_eqb _ _ m, ne_eqb _ _ n) refl
