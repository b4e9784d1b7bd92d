-- What a stranger has to believe.
pub mod TemplateOf
