use Rattle.std.proofs.Common.{sym, ap, ◌∙◌, ◌++◌}
use Rattle.rv_asm.proofs.InsnWords.{has_is_valid, word_is, put_two}
use Rattle.rv_asm.proofs.words.put_pair.Goals as goal

pub encode-requires : goal.encode-requires
encode-requires c = has_is_valid c.args.first (sym c.has_word.ensures ∙ c.if-not-has_word.false)

pub encode-requires-2 : goal.encode-requires-2
encode-requires-2 c = has_is_valid c.args.second (sym c.has_word-2.ensures ∙ c.if-not-has_word-2.false)

pub returns : goal.returns
returns c =
    put_two c.args.place c.args.first c.args.second c.args.out.now.items c.extend_from_slice.new.self.items c.extend_from_slice-2.new.self.items
    c.encode.result c.encode-2.result
    (sym c.is_aligned.ensures ∙ c.if-not-is_aligned.false) (sym c.has_word.ensures ∙ c.if-not-has_word.false) (sym c.has_word-2.ensures ∙ c.if-not-has_word-2.false)
    (word_is c.encode.result c.args.first c.encode.type_inv c.encode.ensures.decodes)
    (word_is c.encode-2.result c.args.second c.encode-2.type_inv c.encode-2.ensures.decodes)
    (c.in_ok-extend_from_slice.ensures.items ∙ ap (λ bs. c.args.out.now.items ++ bs) c.to_le_bytes.ensures)
    (c.in_ok-extend_from_slice-2.ensures.items ∙ ap (λ bs. c.extend_from_slice.new.self.items ++ bs) c.to_le_bytes-2.ensures)
