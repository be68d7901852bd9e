use Rattle.word_laws.proofs.Spans.{span_subspace}
use Rattle.word_laws.proofs.Sparse.{sparse, shared_block}
use Rattle.word_laws.proofs.laws.columns_are_sparse.Goals as goal

pub returns-clause-spans : goal.returns-clause-spans
returns-clause-spans a = span_subspace

pub returns-clause-sparse : goal.returns-clause-sparse
returns-clause-sparse a = sparse

pub returns-clause-blocks : goal.returns-clause-blocks
returns-clause-blocks a = shared_block
