pub mod GeneratorCalls
