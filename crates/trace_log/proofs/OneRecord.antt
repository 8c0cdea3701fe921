-- The fields of a record are those of no other record
use Rattle.std.proofs.Common.{◌≡◌, ℕ, ◌+◌, ◌*◌, ◌/◌, ◌%◌, ◌^◌, Bool, true, false, cond, ◌&&◌, nat_le, nat_lt, IsTrue, Some, None, refl, ap, ◌∙◌, arith, eqb}
use Rattle.std.proofs.lemmas.Bool.{eq-eqb}
use Rattle.sys_abi.specs.declared.record.Record.{Record}
use Rattle.sys_abi.specs.declared.record.Record.TheVariants.{User, Call, Deliver, Arrive, Cut, Drained, Refilled, Complete, Refused, Lapsed}
use Rattle.sys_abi.specs.declared.record.Cause.TheVariants.{Unsupported, DiskFault, Memory}
use Rattle.sys_abi.specs.declared.record.Kind.{Kind}
use Rattle.sys_abi.specs.declared.record.Kind.TheVariants.{Console, File, Stream, Socket, Listener, Datagram, Counter}
use Rattle.sys_abi.specs.declared.identity.VPid.{VPid}
use Rattle.sys_abi.specs.declared.identity.Fd.{Fd}
use Rattle.trace_log.specs.declared.fields.Fields.{Fields}
use Rattle.trace_log.specs.Spelling.{fields_of, is_spellable, HasSpelling}
use Rattle.trace_log.specs.Candidate.{candidate, refusal_in}

-- the two halves of a generation
halves : (generation : ℕ) → generation % 2 ^ 32 + 2 ^ 32 * (generation / 2 ^ 32) ≡ generation
halves generation = omega arith

chosen : {A : Type 0} (b : Bool) (x y : A) → IsTrue b → cond b x y ≡ x
chosen b x y h = ap (λ v. cond v x y) h

no_kind : (b : Bool) → IsTrue (b && false) → ⊥
no_kind true h = cc
no_kind false h = cc

refused_of : (p : VPid) (fd : Fd) (kind : Kind) → IsTrue (is_spellable (Refused (Unsupported p fd kind))) → candidate (fields_of (Refused (Unsupported p fd kind))) ≡ Some (Refused (Unsupported p fd kind))
unfolding fields_of candidate refusal_in
refused_of p fd Datagram h = refl
refused_of p fd Counter h = refl
refused_of p fd Console h = absurd (no_kind (nat_lt fd.0 (2 ^ 16)) h)
refused_of p fd File h = absurd (no_kind (nat_lt fd.0 (2 ^ 16)) h)
refused_of p fd Stream h = absurd (no_kind (nat_lt fd.0 (2 ^ 16)) h)
refused_of p fd Socket h = absurd (no_kind (nat_lt fd.0 (2 ^ 16)) h)
refused_of p fd Listener h = absurd (no_kind (nat_lt fd.0 (2 ^ 16)) h)

-- what the fields of a record can be those of is that record
pub candidate-fields_of : (r : Record) → HasSpelling r → candidate (fields_of r) ≡ Some r
unfolding fields_of candidate refusal_in
candidate-fields_of (User p t n) h = refl
candidate-fields_of (Call p t) h = refl
candidate-fields_of (Deliver p t s) h = chosen (nat_le 1 s.0 && nat_le s.0 31) (Some (Deliver p t s)) None h.spellable
candidate-fields_of (Arrive dir n) h = refl
candidate-fields_of (Cut generation) h = ap (λ g. Some (Cut g)) (halves generation)
candidate-fields_of (Drained dir n) h = refl
candidate-fields_of (Refilled dir n) h = refl
candidate-fields_of (Complete generation) h = ap (λ g. Some (Complete g)) (halves generation)
candidate-fields_of (Refused (Unsupported p fd kind)) h = refused_of p fd kind h.spellable
candidate-fields_of (Refused DiskFault) h = refl
candidate-fields_of (Refused Memory) h = refl
candidate-fields_of Lapsed h = refl

-- no record has fields that can't be any's
pub no_fields : (f : Fields) → candidate f ≡ None → (r : Record) → HasSpelling r → fields_of r ≡ f → ⊥
no_fields f e r h is = let same = candidate-fields_of r h in cc

-- whether two have the same fields, as their derived comparison tests it
abbrev same_fields : Fields → Fields → Bool
same_fields f g = eqb f.kind g.kind && (eqb f.x g.x && (eqb f.fd g.fd && (eqb f.a g.a && (eqb f.b g.b && eqb f.n g.n))))

same : (n : ℕ) → eqb n n ≡ true
same n = eq-eqb n n refl

same_fields-self : (f : Fields) → same_fields f f ≡ true
same_fields-self f = rw (same f.kind, same f.x, same f.fd, same f.a, same f.b, same f.n) refl

-- nor has a record fields that differ from those of the one that they can be
pub other_fields : (f g : Fields) (q : Record) → candidate f ≡ Some q → g ≡ fields_of q → same_fields g f ≡ false → (r : Record) → HasSpelling r → fields_of r ≡ f → ⊥
other_fields f g q e of differ r h is =
    let here = candidate-fields_of r h in
    let one : q ≡ r = cc in
    let alike : g ≡ f = of ∙ ap fields_of one ∙ is in
    let test : same_fields g f ≡ true = ap (λ x. same_fields x f) alike ∙ same_fields-self f in
    cc
