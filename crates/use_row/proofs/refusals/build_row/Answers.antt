use Rattle.law_row.proofs.BuiltRow.{built-fits}
use Rattle.use_row.proofs.Buffers.{beyond, kept}
use Rattle.use_row.proofs.refusals.build_row.Goals as goal

pub returns-clause-ykept : goal.returns-clause-ykept
returns-clause-ykept c = kept _ _ _ _ c.build.ensures.answer c.build.ensures.luma

pub returns-clause-ckept : goal.returns-clause-ckept
returns-clause-ckept c = kept _ _ _ _ c.build.ensures.answer c.build.ensures.chroma

pub returns-clause-ybeyond : goal.returns-clause-ybeyond
returns-clause-ybeyond c =
    let at = c.args in
    beyond _ _ _ _ c.build.ensures.luma
    (λ none. (built-fits at.raster at.line at.carry at.yactive.now at.cactive.now at.ylaid.now at.claid.now at.y.now at.c.now none).y_length)

pub returns-clause-cbeyond : goal.returns-clause-cbeyond
returns-clause-cbeyond c =
    let at = c.args in
    beyond _ _ _ _ c.build.ensures.chroma
    (λ none. (built-fits at.raster at.line at.carry at.yactive.now at.cactive.now at.ylaid.now at.claid.now at.y.now at.c.now none).c_length)
