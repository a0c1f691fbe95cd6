use mathlib.Core.Path.{sym, ◌∙◌}
use borrow.Author.Tests.{le-ltb}
use Rattle.reader.specs.Reader.{of_tag_count, of_tag_byte, of_options_count, of_wipe_byte, of_high_byte, read_of}
use Rattle.use_file.proofs.Bytes.{lawful_read, stops}
use Rattle.use_file.proofs.refusals.read.Goals as goal

pub returns : goal.returns
unfolding read_of of_tag_count of_tag_byte of_options_count of_wipe_byte of_high_byte
returns c =
    let e = c.read.ensures.answer in
    let r = c.args.reader.now in
    let b = c.args.byte in
    let whole = le-ltb r.count.seen 3 in
    record { tagsize = λ at l bad. rw (e, at, whole l, bad); tagbyte = λ at bad. rw (e, at, bad); optionssize = λ at l bad. rw (e, at, whole l, bad); wipe = λ at bad. rw (e, at, bad); raster = λ at ok bad. rw (e, at, ok, bad); word = λ at bad. rw (e, at, bad); done = λ ok. rw e (lawful_read r.stage r b ok); stops = λ bad. c.read.ensures.after ∙ stops (read_of r b) (rw (sym e) bad) }
