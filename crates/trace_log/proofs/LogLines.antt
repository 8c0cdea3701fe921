-- The lines of a log, as a format writes them and as their definition does
use Rattle.std.proofs.Common.{◌≡◌, ℕ, ◌+◌, List, [], ◌∷◌, ◌++◌, append_assoc, append-nil, refl, sym, ap, ◌∙◌, codes, ◌<◌, length, take, get_or, subst}
use Rattle.std.proofs.lemmas.List.{take_more}
use Rattle.std.specs.Fmt.{decimal}
use Rattle.sys_abi.specs.declared.record.Record.{Record}
use Rattle.sys_abi.specs.declared.record.Record.TheVariants.{Complete, Refused}
use Rattle.sys_abi.specs.declared.record.Cause.{Cause}
use Rattle.sys_abi.specs.declared.record.Cause.TheVariants.{Unsupported, Memory}
use Rattle.sys_abi.specs.declared.record.Kind.{Kind}
use Rattle.sys_abi.specs.declared.identity.VPid.{VPid}
use Rattle.sys_abi.specs.declared.identity.Fd.{Fd}
use Rattle.trace_log.specs.declared.log_lines.Progress.{Progress}
use Rattle.trace_log.specs.RequestLaws.{LogGrows}
use Rattle.trace_log.specs.LogText.{line_of, kind_text, after, after_all, at_start, lines_from, log_text}

-- nine pieces in a row
nine : (a b c d e f g h i : List ℕ) → a ++ b ++ (c ++ d ++ e ++ f ++ g ++ h ++ i) ≡ a ++ (b ++ (c ++ (d ++ (e ++ (f ++ (g ++ (h ++ i)))))))
nine a b c d e f g h i = simp append_assoc

pub line_of-Complete : (so_far : Progress) (generation : ℕ) (event : Record) (line : List ℕ) → event ≡ Complete generation →
    line ≡ codes "checkpoint " ++ (decimal so_far.request ++ (codes " complete: generation " ++ (decimal generation ++ (codes ", drained " ++ (decimal so_far.drained ++ codes "\n"))))) →
    line ≡ line_of so_far event
unfolding line_of
line_of-Complete so_far generation event line is written = rw is (written ∙ sym (simp append_assoc))

pub line_of-Unsupported : (so_far : Progress) (request : ℕ) (p : VPid) (fd : Fd) (kind : Kind) (cause : Cause) (text line : List ℕ) → cause ≡ Unsupported p fd kind → so_far.request ≡ request → text ≡ kind_text kind →
    line ≡ codes "checkpoint " ++ (decimal request ++ (codes " refused: process " ++ (decimal p.0 ++ (codes " descriptor " ++ (decimal fd.0 ++ (codes " is " ++ (text ++ codes "\n"))))))) →
    line ≡ line_of so_far (Refused cause)
unfolding line_of
line_of-Unsupported so_far request p fd kind cause text line is same shown written = rw (is, same) (written ∙ rw shown (sym (nine (codes "checkpoint ") (decimal request) (codes " refused: process ") (decimal p.0) (codes " descriptor ") (decimal fd.0) (codes " is ") (kind_text kind) (codes "\n"))))

pub line_of-Memory : (so_far : Progress) (request : ℕ) (cause : Cause) (line : List ℕ) → cause ≡ Memory → so_far.request ≡ request →
    line ≡ codes "checkpoint " ++ (decimal request ++ codes " refused: memory\n") →
    line ≡ line_of so_far (Refused cause)
unfolding line_of
line_of-Memory so_far request cause line is same written = rw (is, same) written

-- how far things are after one more record
pub after_all-push : (so_far : Progress) (rs : List Record) (r : Record) → after_all so_far (rs ++ r ∷ []) ≡ after (after_all so_far rs) r
after_all-push so_far [] r = refl
after_all-push so_far (q ∷ rs) r = after_all-push (after so_far q) rs r

-- the log has one line more where one more record has one
pub lines_from-push : (so_far : Progress) (rs : List Record) (r : Record) → lines_from so_far (rs ++ r ∷ []) ≡ lines_from so_far rs ++ line_of (after_all so_far rs) r
lines_from-push so_far [] r = append-nil (line_of so_far r)
lines_from-push so_far (q ∷ rs) r =
    ap (λ text. line_of so_far q ++ text) (lines_from-push (after so_far q) rs r)
    ∙ sym (append_assoc (line_of so_far q) (lines_from (after so_far q) rs) (line_of (after_all (after so_far q) rs) r))

pub log_grows : LogGrows
log_grows trace r = lines_from-push at_start trace r

-- how far a log has come after the records, and its text
pub record HasCome (records : List Record) (so_far : Progress) (text : List ℕ) : Type 0 where
  pub here : so_far ≡ after_all at_start records
  pub lines : text ≡ log_text records

pub HasCome-next : (trace : List Record) (i : ℕ) (d : Record) (so_far past : Progress) (text longer line : List ℕ) → i < length trace → HasCome (take i trace) so_far text →
    line ≡ line_of so_far (get_or trace i d) → longer ≡ text ++ line → past ≡ after so_far (get_or trace i d) → HasCome (take (i + 1) trace) past longer
HasCome-next trace i d so_far past text longer line below before written put passed =
    subst (λ rs. HasCome rs past longer) (sym (take_more trace i d below)) (record {
      here = passed ∙ ap (λ p. after p (get_or trace i d)) before.here ∙ sym (after_all-push at_start (take i trace) (get_or trace i d));
      lines = rw (put, written, before.lines, before.here) (sym (lines_from-push at_start (take i trace) (get_or trace i d)));
    })
