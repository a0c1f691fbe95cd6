-- A contract of several clauses, each under its name, from the product of them.

pub answer_means : {A B : Type 0} → A × B → record { answer : A; means : B }
answer_means p = record { answer = p.0; means = p.1 }

pub answer_luma_chroma : {A B C : Type 0} → A × (B × C) → record { answer : A; luma : B; chroma : C }
answer_luma_chroma p = record { answer = p.0; luma = p.1.0; chroma = p.1.1 }
