-- What `==` answers at instructions.
use Rattle.std.proofs.Common.{◌≡◌, Bool, true, ◌&&◌, eqb, ap, rules}
use Rattle.std.proofs.lemmas.Bool.{and_parts, and_from, eqb-true, eq-eqb}
use Rattle.std.proofs.lemmas.Bool.Decides.{Decides-int_eq}
use Rattle.std.specs.Ordering.{int_eq}
use denote.Enum.Bare.{sameb, same_true, true_same}
use Rattle.plain_process.specs.contracts.instruction.Op.{the_type}
use Rattle.plain_process.specs.declared.instruction.Insn.{Insn}

abbrev pub insn_eq : Insn → Insn → Bool
insn_eq a b = sameb the_type a.op b.op && (eqb a.rd b.rd && (eqb a.rs1 b.rs1 && (eqb a.rs2 b.rs2 && int_eq a.imm b.imm)))

by_fields : (a b : Insn) → a.op ≡ b.op → a.rd ≡ b.rd → a.rs1 ≡ b.rs1 → a.rs2 ≡ b.rs2 → a.imm ≡ b.imm → a ≡ b
by_fields a b p q r s t = λ i. record { op = p i; rd = q i; rs1 = r i; rs2 = s i; imm = t i }

pub same-insn_eq : (a b : Insn) → insn_eq a b ≡ true → a ≡ b
same-insn_eq a b e =
    let p = and_parts (sameb the_type a.op b.op) _ e in
    let q = and_parts (eqb a.rd b.rd) _ p.1 in
    let r = and_parts (eqb a.rs1 b.rs1) _ q.1 in
    let s = and_parts (eqb a.rs2 b.rs2) _ r.1 in
    by_fields a b (same_true the_type (search rules) _ _ p.0) (eqb-true _ _ q.0) (eqb-true _ _ r.0) (eqb-true _ _ s.0) ((Decides-int_eq a.imm b.imm).0 s.1)

pub insn_eq-same : (a b : Insn) → a ≡ b → insn_eq a b ≡ true
insn_eq-same a b e =
    and_from _ _ (true_same the_type _ _ (ap (λ (i : Insn). i.op) e))
    (and_from _ _ (eq-eqb _ _ (ap (λ (i : Insn). i.rd) e))
    (and_from _ _ (eq-eqb _ _ (ap (λ (i : Insn). i.rs1) e))
    (and_from _ _ (eq-eqb _ _ (ap (λ (i : Insn). i.rs2) e)) ((Decides-int_eq a.imm b.imm).1 (ap (λ (i : Insn). i.imm) e)))))
