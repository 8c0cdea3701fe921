use Rattle.std.proofs.Common.{sym, ap, ◌∙◌, ◌++◌}
use Rattle.rv_asm.proofs.InsnWords.{has_is_valid, word_is, put_one}
use Rattle.rv_asm.proofs.words.put_insn.Goals as goal

pub encode-requires : goal.encode-requires
encode-requires c = has_is_valid c.args.insn (sym c.has_word.ensures ∙ c.if-not-has_word.false)

pub returns : goal.returns
returns c =
    put_one c.args.place c.args.insn c.args.out.now.items c.extend_from_slice.new.self.items c.encode.result
    (sym c.is_aligned.ensures ∙ c.if-not-is_aligned.false) (sym c.has_word.ensures ∙ c.if-not-has_word.false)
    (word_is c.encode.result c.args.insn c.encode.type_inv c.encode.ensures.decodes)
    (c.in_ok-extend_from_slice.ensures.items ∙ ap (λ bs. c.args.out.now.items ++ bs) c.to_le_bytes.ensures)
