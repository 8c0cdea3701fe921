use Rattle.std.proofs.Common.{◌<◌, length, arith}
use Rattle.std.specs.Prelude.{string_bytes}
use Rattle.std.proofs.lemmas.List.{length-map}
use Rattle.option_words.specs.Reading.{seen, texts_of}
use Rattle.option_words.proofs.Settings.{begun, one_read, shorter}
use Rattle.option_words.proofs.options.read_options.Goals as goal

pub loop-given-init : goal.loop-given-init
loop-given-init c = begun c.args.form (texts_of c.args.words.now) c.none-options.result c.none-options.ensures

pub loop-given-preserved : goal.loop-given-preserved
loop-given-preserved c =
    let found = c.in-Some.ensures.some in
    one_read c.args.form (texts_of c.args.words.now) c.loop-given.options c.take.new.self (texts_of c.loop-given.rest.now) (texts_of c.in-Some.after.now) (seen c.in-Some.given)
    c.loop-given.invariant found.0 found.1 found.2 c.take.ensures

pub loop-given-smaller : goal.loop-given-smaller
loop-given-smaller c =
    let found = c.in-Some.ensures.some in
    let fewer : length (texts_of c.in-Some.after.now) < length (texts_of c.loop-given.rest.now) = shorter (seen c.in-Some.given) (texts_of c.in-Some.after.now) (texts_of c.loop-given.rest.now) found.2 in
    omega (arith, fewer, length-map c.in-Some.after.now string_bytes, length-map c.loop-given.rest.now string_bytes)
