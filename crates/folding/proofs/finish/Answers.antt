-- `finish`: what is laid down and xor-ed in.
use Rattle.std.proofs.lemmas.List.{take_rest}
use Rattle.folding.specs.Folding.{loaded}
use Rattle.folding.proofs.finish.Goals as goal

pub returns : goal.returns
unfolding loaded
returns c =
    let out = c.args.out.now in
    rw (c.xor_in-3.ensures, c.xor_in-2.ensures, c.xor_in.ensures, c.copy_from_slice.ensures.after, take_rest out 128, take_rest out 152)
