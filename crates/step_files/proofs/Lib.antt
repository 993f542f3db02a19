mod Along
mod Adding
