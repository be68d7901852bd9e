use Rattle.tc_ring.proofs.Surds.{surds_laws, root2_surd-squared, embedding, embed-root2, embed_injective}
use Rattle.tc_ring.proofs.surd_laws_hold.Goals as goal

pub returns-clause-surds : goal.returns-clause-surds
returns-clause-surds c = surds_laws

pub returns-clause-root : goal.returns-clause-root
returns-clause-root c = root2_surd-squared

pub returns-clause-embedding : goal.returns-clause-embedding
returns-clause-embedding c = embedding

pub returns-clause-embedded_root : goal.returns-clause-embedded_root
returns-clause-embedded_root c = embed-root2

pub returns-clause-one_to_one : goal.returns-clause-one_to_one
returns-clause-one_to_one c = embed_injective
