use Rattle.std.proofs.Common.{◌≡◌, List, ℕ, ◌++◌, OnOk, subst}
use Rattle.std.specs.List.{flat_map}
use Rattle.image_format.specs.Format.{number_text, n32}
use Rattle.image_process.specs.ProcessTexts.{registers_text}
use Rattle.image_format.proofs.Writing.{tail_of}
use Rattle.image_process.proofs.thread_image.put_registers.Goals as goal

pub returns-clause-value : goal.returns-clause-value
unfolding registers_text
returns-clause-value c =
    subst (λ (words : List ℕ). OnOk c.put_words.result (c.put_words.new.bytes.items ≡ c.args.bytes.now.items ++ flat_map (number_text n32) words)) (tail_of c.args.x.now 31 c.told-x) c.put_words.ensures
